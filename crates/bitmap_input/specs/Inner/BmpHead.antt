-- The bytes of a BMP header in the program, and what the program takes from them.
use Rattle.std.specs.Prelude.{◌≡◌, ℕ, ◌+◌, ◌-◌, ◌^◌, ◌≤◌, ◌<◌, true, false, Bool, List, length, slice_index_or, suc, ◌*◌, ◌/◌, reverse, if◌then◌else◌, Option, Some, None, Result, Ok, Err}
use Rattle.bitmap_input.specs.Cut.{FileEnd, Cut, ◌>>=◌}
use Rattle.bitmap_input.specs.Cut.Cut.{Takes, Stops}
use Rattle.bitmap_input.specs.Inner.Reading.{cause_of}
use Rattle.bitmap_input.specs.Reading.Cause.{Says}
use Rattle.bitmap_input.specs.Sides.{}
use Rattle.bitmap_input.specs.BmpHeader.{two_at, four_at, file_size, pixel_offset, header_size, is_short, bits, is_known_depth, width, height, is_top_down, is_known_size, is_known_kind, mask_bytes, palette_length, color_bytes, palette_end}
use Rattle.bitmap_input.specs.PageParts.{block, repeated}
use Rattle.bitmap_input.specs.Raw.{Raw, Entry, black}
use Rattle.bitmap_input.specs.Raw.Entry.{Color}
use Rattle.bitmap_input.specs.BmpRaster.{color_at, bit_at, half_at, palette_color, color_row}
use Rattle.bitmap_input.specs.declared.stop.Stop.{Stop}
use Rattle.bitmap_input.specs.declared.bmp.fields.Depth.{Depth}
use Rattle.bitmap_input.specs.declared.bmp.fields.Depth.TheVariants as depth
use Rattle.bitmap_input.specs.declared.bmp.fields.Field.{Field}
use Rattle.bitmap_input.specs.declared.bmp.fields.Field.TheVariants as field
use Rattle.bitmap_input.specs.declared.bmp.layout.Header.{Header}
use Rattle.bitmap_input.specs.declared.bmp.ink.Ink.{Ink}

-- the first bytes of a header, with a known size
pub record IsHeaderStart (head : List ℕ) : Type 0 where
  pub reach : length head ≡ 16
  pub known : is_known_size (header_size head) ≡ true

-- the bytes up to the end of the header without its masks
pub record IsInfo (head : List ℕ) : Type 0 where
  pub reach : length head ≡ 12 + header_size head
  pub known : is_known_size (header_size head) ≡ true

-- the bytes up to the end of the header with its masks
pub record IsWholeHeader (head : List ℕ) : Type 0 where
  pub reach : length head ≡ 12 + header_size head + mask_bytes head
  pub known : is_known_size (header_size head) ≡ true

-- the bytes contain all fields of the header without its masks
pub record HasInfo (head : List ℕ) : Type 0 where
  pub within : 12 + header_size head ≤ length head
  pub least : 12 ≤ header_size head
  pub most : header_size head ≤ 124
  pub long : is_short head ≡ false → 40 ≤ header_size head

-- the number that a field of the header holds
abbrev pub field_number : List ℕ → Field → ℕ
field_number head field.None = 0
field_number head (field.Two place) = two_at head place
field_number head (field.Four place) = four_at head place

-- the number in one field of the oldest header, or in another field of a later one
abbrev pub number_by_age : List ℕ → Field → Field → ℕ
number_by_age head oldest later = if is_short head then field_number head oldest else field_number head later

-- the field begins after the magic number and ends within `room` bytes after it
abbrev pub StandsWithin : Field → ℕ → Type 0
StandsWithin field.None room = Unit {0}
StandsWithin (field.Two place) room = (2 ≤ place) × (place ≤ room)
StandsWithin (field.Four place) room = (2 ≤ place) × (place + 2 ≤ room)

-- the number of bits of a pixel
abbrev pub bits_in : Depth → ℕ
bits_in depth.One = 1
bits_in depth.Four = 4
bits_in depth.Eight = 8
bits_in depth.TwentyFour = 24
bits_in depth.ThirtyTwo = 32

-- the depth of pixels with this many bits and this compression, or none if they can't be read
abbrev pub IsKnownDepth : ℕ → ℕ → Option Depth → Type 0
IsKnownDepth bits compression (Some d) = (is_known_depth bits compression ≡ true) × (bits ≡ bits_in d)
IsKnownDepth bits compression None = is_known_depth bits compression ≡ false

-- how many colours pixels of this depth can number, or none if they are colours themselves
abbrev pub IsMostColors : Depth → Option ℕ → Type 0
IsMostColors d (Some n) = (bits_in d ≤ 8) × (n ≡ 2 ^ bits_in d) × (n ≤ 256)
IsMostColors d None = 8 < bits_in d

-- the depth of the header's pixels, or none if they are of a kind that can't be read
abbrev pub IsDepth : List ℕ → Option Depth → Type 0
IsDepth head (Some d) = (is_known_kind head ≡ true) × (bits head ≡ bits_in d)
IsDepth head None = is_known_kind head ≡ false

-- what the program takes from a header
pub record IsHeader (h : Header) (head : List ℕ) : Type 0 where
  pub width : width head ≡ h.sides.width
  pub height : height head ≡ h.sides.height
  pub top_down : is_top_down head ≡ h.top_down
  pub depth : bits head ≡ bits_in h.depth
  pub color_bytes : color_bytes head ≡ h.color_bytes
  pub palette_length : palette_length head ≡ h.palette_length
  pub before_pixels : pixel_offset head - palette_end head ≡ h.before_pixels
  pub pixel_offset : pixel_offset head ≡ h.pixel_offset
  pub file_size : file_size head ≡ h.file_size

-- the result of a check that takes no bytes, for any bytes
abbrev pub Passes : {X A : Type 0} → (X → A → Type 0) → (List ℕ → Cut A) → Result X Stop → Type 0
Passes {A = A} is part (Ok x) = (a : A) × is x a × ((bytes : List ℕ) → part bytes ≡ Takes false a bytes)
Passes is part (Err s) = (ending : FileEnd) × (cause_of s ≡ Says ending) × ((bytes : List ℕ) → part bytes ≡ Stops false ending)

-- a table that says which colours of a palette are black, for any number
abbrev pub IsPaletteTable : ℕ → Bool → (ℕ → Entry) → List Bool → Type 0
IsPaletteTable level invert color table =
    (i : ℕ) → slice_index_or table i (black level invert (Color 0 0 0)) ≡ black level invert (color i)

-- whether the pixel in column x of a row is black, given a table of the palette
abbrev pub shade_in : Depth → ℕ → Bool → List Bool → List ℕ → ℕ → Bool
shade_in depth.One level invert table row x = slice_index_or table (bit_at row x) (black level invert (Color 0 0 0))
shade_in depth.Four level invert table row x = slice_index_or table (half_at row x) (black level invert (Color 0 0 0))
shade_in depth.Eight level invert table row x =
    slice_index_or table (slice_index_or row x 0) (black level invert (Color 0 0 0))
shade_in depth.TwentyFour level invert table row x = black level invert (color_at row (3 * x))
shade_in depth.ThirtyTwo level invert table row x = black level invert (color_at row (4 * x))

-- whether the pixel in column x of a row is black, by the program's description of a row
abbrev pub shade_by : Ink → List ℕ → ℕ → Bool
shade_by i row x = shade_in i.depth i.tone.level i.tone.invert i.table.now row x

-- the row of the page for row i of the picture, which is stored from the top or from the bottom
abbrev pub row_place : Bool → ℕ → ℕ → ℕ
row_place true height i = height - suc i
row_place false height i = i

-- What follows a header, by the program's description of the header.

-- the number of bytes of a row, which is padded to a multiple of four
abbrev pub row_bytes_by : Header → ℕ
row_bytes_by h = 4 * ((h.sides.width * bits_in h.depth + 31) / 32)

-- the raw page with these rows, as the file holds them
abbrev pub picture_by : Header → List (List Entry) → Raw
picture_by h rows = record {
  width = h.sides.width;
  height = h.sides.height;
  rows = if h.top_down then rows else reverse rows;
  least_length = h.file_size;
}

-- the rows
abbrev pub pixels_by : Header → (ℕ → Entry) → List ℕ → Cut Raw
pixels_by h color bytes =
    repeated (color_row (row_bytes_by h) (bits_in h.depth) color h.sides.width) h.sides.height bytes >>= λ rows rest.
    Takes false (picture_by h rows) rest

-- the palette, ignored bytes, and the rows
abbrev pub raster_by : Header → List ℕ → Cut Raw
raster_by h bytes =
    block (h.color_bytes * h.palette_length) bytes >>= λ palette rest. block h.before_pixels rest >>= λ _ rest.
    pixels_by h (palette_color h.palette_length h.color_bytes palette) rest
