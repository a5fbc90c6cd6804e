-- Words of the pixels of a row.
use Rattle.std.specs.Prelude.{◌≡◌, ℕ, ◌+◌, ◌*◌, ◌<◌, ◌≤◌, Bool}
use Rattle.pt_core.specs.declared.limits.TheConstants.{LONGEST_SIDE}
use Rattle.bit_image.specs.Words.{is_one}

-- a word has bits for `count` pixels of a row, from a column on, and with `size` units per pixel they lie within `room`
pub record FitsWord (size from count room : ℕ) : Type 0 where
  pub few : count ≤ 64
  pub column : from ≤ LONGEST_SIDE
  pub within : size * (from + count) ≤ room

-- the word shows `count` pixels of a row, from a column on: the bit of a black pixel is 1
abbrev pub ShowsPixels : (ℕ → Bool) → ℕ → ℕ → ℕ → Type 0
ShowsPixels black from count word = (k : ℕ) → k < count → is_one word k ≡ black (from + k)
