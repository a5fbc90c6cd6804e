-- How a bitmap stores its pixels: 64 in a word, the least significant bit leftmost, and the rows one after another
-- from the lowest up.
use Rattle.std.specs.Prelude.{◌≡◌, ℕ, ◌+◌, ◌*◌, ◌/◌, ◌%◌, ◌≤◌, ◌<◌, Bool, false, List, length, take, drop, slice_index_or}
use Rattle.pt_core.specs.declared.limits.TheConstants.{LONGEST_SIDE}
use Rattle.bit_image.specs.Image.{Image}
use Rattle.bit_image.specs.Words.{is_one}

-- the pixel in column x of a row of words is black
unfoldable pub black_in : List ℕ → ℕ → Bool
black_in row x = is_one (slice_index_or row (x / 64) 0) (x % 64)

-- the words of row y, if a row has `stride` words
abbrev pub row_of : ℕ → List ℕ → ℕ → List ℕ
row_of stride words y = take stride (drop (y * stride) words)

-- the image that the words store
abbrev pub pixels_of : ℕ → List ℕ → Image
pixels_of stride words x y = black_in (row_of stride words y) x

-- both sides are 1 to `LONGEST_SIDE`, a row has just enough words, and bits beyond the width are 0
pub record IsPacked (width height stride : ℕ) (words : List ℕ) : Type 0 where
  pub some_width : 1 ≤ width
  pub most_width : width ≤ LONGEST_SIDE
  pub some_height : 1 ≤ height
  pub most_height : height ≤ LONGEST_SIDE
  pub enough : width ≤ 64 * stride
  pub no_more : 64 * stride < width + 64
  pub word_count : length words ≡ height * stride
  pub clear : (x y : ℕ) → width ≤ x → pixels_of stride words x y ≡ false
