-- Runs of bytes, read one byte after another.
use Rattle.std.specs.Prelude.{◌≡◌, ℕ, suc, true, false, List, ◌∷◌, min, Option, Some, None}
use Rattle.bitmap_input.specs.Cut.{Cut, ◌>>=◌}
use Rattle.bitmap_input.specs.Cut.Cut.{Takes}
use Rattle.bitmap_input.specs.PageParts.{run_length, gap_length, is_space, is_digit, run_of, value}
use Rattle.bitmap_input.specs.declared.run.Run.{Run}
use Rattle.bitmap_input.specs.declared.run.Run.TheVariants.{Space, Gap, Comment}

-- how many bytes of the run there are at the beginning
abbrev pub run_size : Run → List ℕ → ℕ
run_size Space bytes = run_length is_space bytes
run_size Gap bytes = gap_length false bytes
run_size Comment bytes = gap_length true bytes

-- the run as a part of a page
abbrev pub run_part : Run → List ℕ → Cut (List ℕ)
run_part run bytes = run_of (run_size run bytes) bytes

-- the run goes on after the byte, or ends before it
abbrev pub Continues : Run → ℕ → Option Run → Type 0
Continues run b (Some next) = (bs : List ℕ) → run_size run (b ∷ bs) ≡ suc (run_size next bs)
Continues run b None = (bs : List ℕ) → run_size run (b ∷ bs) ≡ 0

-- the digits at the beginning, and the number that they form
abbrev pub digits : List ℕ → Cut ℕ
digits bytes = run_of (run_length is_digit bytes) bytes >>= λ ds rest. Takes false (value 0 ds) rest

-- the greatest number that isn't capped: a greater one is too large for a side, for the sample for
-- white and for a black sample
abbrev pub cap : ℕ
cap = 200000

-- the number, capped
abbrev pub IsCapped : ℕ → ℕ → Type 0
IsCapped x a = x ≡ min a cap
