-- The first pages of a file's bytes, and what follows them.
use Rattle.std.specs.Prelude.{◌≡◌, ℕ, Bool, true, List, [], ◌∷◌, drop}
use Rattle.bitmap_input.specs.Raw.{Raw}
use Rattle.bitmap_input.specs.Front.{front}
use Rattle.bitmap_input.specs.Front.Answer.{Page}
use Rattle.bitmap_input.specs.FilePages.{next_begins}

-- the first pages of the bytes are these, and `rest` is what follows them
abbrev pub BeginsWith : Bool → List ℕ → List Raw → List ℕ → Type 0
BeginsWith later bytes [] rest = bytes ≡ rest
BeginsWith later bytes (raw ∷ raws) rest =
    (used : ℕ) × (front later bytes ≡ Page raw used) × BeginsWith true (drop (next_begins bytes raw used) bytes) raws rest
