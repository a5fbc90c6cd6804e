-- How the pixels of a page are stored in the program, and which of them are black.
use Rattle.std.specs.Prelude.{◌≡◌, ℕ, ◌*◌, Bool, true, false, List}
use Rattle.bit_image.specs.Image.{differ}
use Rattle.bitmap_input.specs.Cut.{Cut, ◌>>=◌}
use Rattle.bitmap_input.specs.PageParts.{repeated}
use Rattle.bitmap_input.specs.Raw.{Raw, Entry, black, row_bytes}
use Rattle.bitmap_input.specs.Raw.Entry.{Bit}
use Rattle.bitmap_input.specs.Front.{sides, plain_pixel, raw_row, rows_raster}
use Rattle.bitmap_input.specs.GrayRows.{header_end}
use Rattle.bitmap_input.specs.Samples.{PixelSamples, samples_in, as_entry, plain_samples, raw_samples_row, sample_bytes}
use Rattle.bitmap_input.specs.Inner.Shading.{black_of}
use Rattle.bitmap_input.specs.declared.shading.Shading.{Shading}
use Rattle.bitmap_input.specs.declared.raster.Raster.{Raster}
use Rattle.bitmap_input.specs.declared.raster.Raster.TheVariants.{PlainBits, RawBits, PlainSamples, RawSamples}

-- pixels or samples are written as characters
abbrev pub is_plain : Raster → Bool
is_plain (PlainBits invert) = true
is_plain (RawBits invert) = false
is_plain (PlainSamples s) = true
is_plain (RawSamples s) = false

-- the raster of a page of samples, plain or raw
abbrev pub samples_raster : Bool → Shading → Raster
samples_raster true s = PlainSamples s
samples_raster false s = RawSamples s

-- what is stored for a pixel
abbrev pub StoredPixel : Raster → Type 0
StoredPixel (PlainBits invert) = Bool
StoredPixel (RawBits invert) = Bool
StoredPixel (PlainSamples s) = PixelSamples s.channels
StoredPixel (RawSamples s) = PixelSamples s.channels

-- a row of `width` pixels
abbrev pub row_stored : (r : Raster) → ℕ → List ℕ → Cut (List (StoredPixel r))
row_stored (PlainBits invert) width = repeated plain_pixel width
row_stored (RawBits invert) width = raw_row width
row_stored (PlainSamples s) width = repeated (plain_samples s.channels) width
row_stored (RawSamples s) width = raw_samples_row s.channels s.maxval width

-- the entry of a pixel
abbrev pub pixel_entry : (r : Raster) → StoredPixel r → Entry
pixel_entry (PlainBits invert) b = Bit b
pixel_entry (RawBits invert) b = Bit b
pixel_entry (PlainSamples s) a = as_entry s.channels s.maxval a
pixel_entry (RawSamples s) a = as_entry s.channels s.maxval a

-- whether a pixel is black
abbrev pub is_black_pixel : (r : Raster) → StoredPixel r → Bool
is_black_pixel (PlainBits invert) b = differ invert b
is_black_pixel (RawBits invert) b = differ invert b
is_black_pixel (PlainSamples s) a = black_of s a
is_black_pixel (RawSamples s) a = black_of s a

-- the sides and the rows, which follow the magic number of a page of bits
abbrev pub sides_and_rows : Raster → List ℕ → Cut Raw
sides_and_rows r bytes =
    sides bytes >>= λ s rest. header_end (is_plain r) rest >>= λ _ rest. rows_raster (pixel_entry r) (row_stored r s.0) s.0 s.1 rest

-- the number of bytes of a row, if it is the same for all rows; otherwise 0
abbrev pub line_bytes : Raster → ℕ → ℕ
line_bytes (PlainBits invert) width = 0
line_bytes (RawBits invert) width = row_bytes width
line_bytes (PlainSamples s) width = 0
line_bytes (RawSamples s) width = sample_bytes s.maxval (samples_in s.channels * width)

-- a pixel is black exactly if it is black at this level, inverted or not
abbrev pub IsAtLevel : ℕ → Bool → Raster → Type 0
IsAtLevel level invert r = (a : StoredPixel r) → black level invert (pixel_entry r a) ≡ is_black_pixel r a
