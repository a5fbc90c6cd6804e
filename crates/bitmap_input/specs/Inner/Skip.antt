-- Skipping bytes.
use Rattle.std.specs.Prelude.{ℕ, ◌-◌, List, length, drop, nat_lt}
use Rattle.bitmap_input.specs.Cut.{Cut}
use Rattle.bitmap_input.specs.Cut.Cut.{Takes}

-- n bytes are skipped, or all if there are fewer; the value is how many were missing
abbrev pub passed_over : ℕ → List ℕ → Cut ℕ
passed_over n bytes = Takes (nat_lt (length bytes) n) (n - length bytes) (drop n bytes)
