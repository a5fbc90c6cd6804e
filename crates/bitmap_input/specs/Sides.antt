-- The sides of a page.
use Rattle.std.specs.Prelude.{ℕ, false, ◌||◌, List, if◌then◌else◌, nat_lt}
use Rattle.pt_core.specs.declared.limits.TheConstants.{LONGEST_SIDE}
use Rattle.bitmap_input.specs.Cut.{Cut}
use Rattle.bitmap_input.specs.Cut.Kind.{ZeroSide, TooLarge}
use Rattle.bitmap_input.specs.Cut.FileEnd.{Refused}
use Rattle.bitmap_input.specs.Cut.Cut.{Takes, Stops}
use Rattle.bitmap_input.specs.PageParts.{is_zero}

-- both sides are in range: none is 0, which is checked first, and none is too large
abbrev pub checked : ℕ → ℕ → List ℕ → Cut (ℕ × ℕ)
checked width height bytes =
    if is_zero width || is_zero height then Stops false (Refused ZeroSide)
    else (if nat_lt LONGEST_SIDE width || nat_lt LONGEST_SIDE height then Stops false (Refused TooLarge)
    else Takes false (width, height) bytes)
