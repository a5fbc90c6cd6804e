-- The check that a format is that of a gray page.
use Rattle.std.specs.Prelude.{◌≡◌, ℕ, Bool, false, List, Result, Ok, Err}
use Rattle.bitmap_input.specs.Cut.{FileEnd, Cut}
use Rattle.bitmap_input.specs.Cut.Cut.{Takes, Stops}
use Rattle.bitmap_input.specs.Inner.Reading.{cause_of}
use Rattle.bitmap_input.specs.Reading.Cause.{Says}
use Rattle.bitmap_input.specs.declared.stop.Stop.{Stop}

-- the result says whether the gray page is plain, or that the format isn't that of a gray page
abbrev pub ChecksKind : (List ℕ → Cut Bool) → Result Bool Stop → Type 0
ChecksKind kind (Ok plain) = (bytes : List ℕ) → kind bytes ≡ Takes false plain bytes
ChecksKind kind (Err stop) =
    (ending : FileEnd) × (cause_of stop ≡ Says ending) × ((bytes : List ℕ) → kind bytes ≡ Stops false ending)
