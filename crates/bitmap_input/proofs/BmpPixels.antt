-- The pixels of a BMP picture, read row by row, are the pixels of the page.
use Rattle.std.proofs.Common.{◌≡◌, refl, ℕ, ◌+◌, ◌*◌, ◌≤◌, ◌<◌, Bool, List, [], ◌∷◌, map, get_or, arith}
use Rattle.std.proofs.Common.{add-one}
use Rattle.bit_image.specs.Image.{Image}
use Rattle.bitmap_input.specs.Inner.Raster.{with_row, with_placed}
use Rattle.bitmap_input.specs.Raw.{Entry, black}
use Rattle.bitmap_input.specs.BmpRaster.{bit_at, half_at, pixel_in}
use Rattle.bitmap_input.specs.declared.bmp.fields.Depth.{Depth}
use Rattle.bitmap_input.specs.declared.bmp.fields.Depth.TheVariants as depth
use Rattle.bitmap_input.specs.Inner.BmpHead.{bits_in, IsPaletteTable, shade_in}

-- a column of the page lies within the row's bytes
pub column_within : (d : Depth) (x w n : ℕ) → x < w → bits_in d * w ≤ 8 * n → (x + 1) * bits_in d ≤ 8 * n
column_within depth.One x w n less whole = omega arith
column_within depth.Four x w n less whole = omega arith
column_within depth.Eight x w n less whole = omega arith
column_within depth.TwentyFour x w n less whole = omega arith
column_within depth.ThirtyTwo x w n less whole = omega arith

-- any number of columns up to the width lies within the row's bytes
pub columns_within : (d : Depth) (m w n : ℕ) → m ≤ w → w * bits_in d ≤ 8 * n → bits_in d * m ≤ 8 * n
columns_within depth.One m w n less whole = omega arith
columns_within depth.Four m w n less whole = omega arith
columns_within depth.Eight m w n less whole = omega arith
columns_within depth.TwentyFour m w n less whole = omega arith
columns_within depth.ThirtyTwo m w n less whole = omega arith

-- a pixel by the table is the pixel by the palette
pub shade_is : (d : Depth) (level : ℕ) (invert : Bool) (color : ℕ → Entry) (table : List Bool) (row : List ℕ) → IsPaletteTable level invert color table → (x : ℕ) →
    shade_in d level invert table row x ≡ black level invert (pixel_in (bits_in d) color row x)
shade_is depth.One level invert color table row is x = is (bit_at row x)
shade_is depth.Four level invert color table row is x = is (half_at row x)
shade_is depth.Eight level invert color table row is x = is (get_or row x 0)
shade_is depth.TwentyFour level invert color table row is x = refl
shade_is depth.ThirtyTwo level invert color table row is x = refl

-- all pixels by the table are those by the palette
pub shades_are : (f : ℕ → Bool) (g : Entry → Bool) (h : ℕ → Entry) → ((x : ℕ) → f x ≡ g (h x)) → (xs : List ℕ) → map f xs ≡ map g (map h xs)
shades_are f g h same [] = refl
shades_are f g h same (x ∷ xs) = rw (same x, shades_are f g h same xs) refl

-- the next row
pub placed_painted : (place : ℕ → ℕ) (c d : Image) (i : ℕ) (r : List Bool) → d ≡ with_row c (place i) r → (rs : List (List Bool)) →
    with_placed place d (i + 1) rs ≡ with_placed place c i (r ∷ rs)
placed_painted place c d i r painted rs = rw (painted, add-one) refl
