-- The pixels of a BMP picture (Microsoft's "Bitmap Storage"): each row is padded to a multiple of
-- four bytes, and its pixels are colours or numbers of colours in a palette.
use Rattle.std.specs.Prelude.{ℕ, ◌+◌, ◌-◌, ◌*◌, ◌/◌, ◌%◌, ◌^◌, false, List, slice_index_or, map, reverse, if◌then◌else◌, nat_eq, nat_lt}
use Rattle.std.specs.List.{range_with_len}
use Rattle.bitmap_input.specs.Cut.{Cut, ◌>>=◌}
use Rattle.bitmap_input.specs.Cut.Cut.{Takes}
use Rattle.bitmap_input.specs.PageParts.{block, repeated}
use Rattle.bitmap_input.specs.Raw.{Raw, Entry}
use Rattle.bitmap_input.specs.Raw.Entry.{Color}
use Rattle.bitmap_input.specs.BmpHeader.{file_size, pixel_offset, bits, width, height, is_top_down, palette_length, color_bytes, palette_bytes, palette_end, row_length}

-- the colour at an index: its bytes are blue, green and red
abbrev pub color_at : List ℕ → ℕ → Entry
color_at bytes at = Color (slice_index_or bytes (at + 2) 0) (slice_index_or bytes (at + 1) 0) (slice_index_or bytes at 0)

-- colour number i of a palette that has `colors` colours of `size` bytes each; beyond the palette
-- it is black
abbrev pub palette_color : ℕ → ℕ → List ℕ → ℕ → Entry
palette_color colors size palette i = if nat_lt i colors then color_at palette (size * i) else Color 0 0 0

-- bit x of a row; the most significant bit of each byte comes first
abbrev pub bit_at : List ℕ → ℕ → ℕ
bit_at row x = (slice_index_or row (x / 8) 0 / 2 ^ (7 - x % 8)) % 2

-- the number in four bits of a row; the upper half of each byte comes first
abbrev pub half_at : List ℕ → ℕ → ℕ
half_at row x = if nat_eq (x % 2) 0 then slice_index_or row (x / 2) 0 / 16 else slice_index_or row (x / 2) 0 % 16

-- the pixel in column x of a row with `bits` bits per pixel; if these are 32, the last one of the pixel's four
-- bytes is ignored
abbrev pub pixel_in : ℕ → (ℕ → Entry) → List ℕ → ℕ → Entry
pixel_in bits color row x =
    if nat_eq bits 1 then color (bit_at row x)
    else (if nat_eq bits 4 then color (half_at row x)
    else (if nat_eq bits 8 then color (slice_index_or row x 0)
    else (if nat_eq bits 24 then color_at row (3 * x) else color_at row (4 * x))))

-- the pixels of a row of n bytes; its bytes and bits beyond the width are ignored
abbrev pub color_row : ℕ → ℕ → (ℕ → Entry) → ℕ → List ℕ → Cut (List Entry)
color_row n bits color width bytes =
    block n bytes >>= λ row rest. Takes false (map (pixel_in bits color row) (range_with_len 0 width)) rest

-- a row of the picture
abbrev pub bmp_row : List ℕ → List ℕ → List ℕ → Cut (List Entry)
bmp_row head palette =
    color_row (row_length head) (bits head) (palette_color (palette_length head) (color_bytes head) palette) (width head)

-- the picture that has its rows in this order
abbrev pub picture : List ℕ → List (List Entry) → Raw
picture head rows = record {
  width = width head;
  height = height head;
  rows = if is_top_down head then rows else reverse rows;
  least_length = file_size head;
}

-- what follows the header: the palette, bytes that are ignored up to the offset of the pixels, and
-- the rows
abbrev pub raster : List ℕ → List ℕ → Cut Raw
raster head bytes =
    block (palette_bytes head) bytes >>= λ palette rest.
    block (pixel_offset head - palette_end head) rest >>= λ _ rest.
    repeated (bmp_row head palette) (height head) rest >>= λ rows rest.
    Takes false (picture head rows) rest
