-- The pages of a file, one after another.
use Rattle.std.specs.Prelude.{ℕ, ◌+◌, ◌≡◌, Bool, true, max, List, [], ◌∷◌, drop}
use Rattle.bitmap_input.specs.Cut.{FileEnd}
use Rattle.bitmap_input.specs.PageParts.{run_length, is_space}
use Rattle.bitmap_input.specs.Raw.{Raw}
use Rattle.bitmap_input.specs.Front.{front}
use Rattle.bitmap_input.specs.Front.Answer.{Page, Ends}

-- the index at which the next page begins: after the bytes that this page takes, and after those
-- that it claims
abbrev pub next_begins : List ℕ → Raw → ℕ → ℕ
next_begins bytes raw used = max used (run_length is_space bytes + raw.least_length)

-- the pages at the beginning of the bytes, one after another, and how they end
pub data FilePages : Bool → List ℕ → List Raw → FileEnd → Type 0 where
  Ended : {later : Bool} {bytes : List ℕ} {ending : FileEnd} → front later bytes ≡ Ends ending → FilePages later bytes [] ending
  Next : {later : Bool} {bytes : List ℕ} {raw : Raw} {used : ℕ} {raws : List Raw} {ending : FileEnd} →
      front later bytes ≡ Page raw used → FilePages true (drop (next_begins bytes raw used) bytes) raws ending →
      FilePages later bytes (raw ∷ raws) ending
