-- Writing the rows of a raster to a page.
use Rattle.std.specs.Prelude.{◌≡◌, ℕ, zero, suc, Bool, List, [], ◌∷◌}
use Rattle.bit_image.specs.Image.{Image, with_pixel}
use Rattle.bit_image.specs.Page.{Page, SameSides, image_of}

-- the image with these pixels in row y, from column x on
abbrev pub with_pixels : Image → ℕ → ℕ → List Bool → Image
with_pixels b y x [] = b
with_pixels b y x (p ∷ ps) = with_pixels (with_pixel b x y p) y (suc x) ps

-- the image with these as the first pixels of row y
abbrev pub with_row : Image → ℕ → List Bool → Image
with_row b y pixels = with_pixels b y 0 pixels

-- the page has these as the first pixels of row y, and nothing else of it changed
pub record HasRow (old : Page) (y : ℕ) (row : List Bool) (new : Page) : Type 0 where
  pub sides : SameSides old new
  pub pixels : image_of new ≡ with_row (image_of old) y row

-- the image with these rows, the first one just below row y, and the others downwards
abbrev pub with_rows : Image → ℕ → List (List Bool) → Image
with_rows b y [] = b
with_rows b zero (r ∷ rs) = b
with_rows b (suc y) (r ∷ rs) = with_rows (with_row b y r) y rs

-- the image with these rows, counted from number i on; each of them is written to the row that `place` gives
-- for its number
abbrev pub with_placed : (ℕ → ℕ) → Image → ℕ → List (List Bool) → Image
with_placed place b i [] = b
with_placed place b i (r ∷ rs) = with_placed place (with_row b (place i) r) (suc i) rs
