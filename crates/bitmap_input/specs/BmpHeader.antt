-- The header of a BMP picture (Microsoft's "Bitmap Storage": BITMAPFILEHEADER, followed by
-- BITMAPCOREHEADER, or by BITMAPINFOHEADER or one of its later versions). Offsets count from the
-- picture's first byte. The least significant byte of a number comes first. The header's bytes are
-- those from offset 2 on, after the magic number `BM`.
use Rattle.std.specs.Prelude.{ℕ, ◌+◌, ◌-◌, ◌*◌, ◌/◌, ◌^◌, Bool, not, ◌&&◌, ◌||◌, List, slice_index_or, if◌then◌else◌, nat_eq, nat_le}
use Rattle.bitmap_input.specs.PageParts.{is_zero}

-- the byte at an offset
unfoldable pub byte_at : List ℕ → ℕ → ℕ
byte_at head place = slice_index_or head (place - 2) 0

-- the number of the two bytes at an offset
unfoldable pub two_at : List ℕ → ℕ → ℕ
two_at head place = byte_at head place + 256 * byte_at head (place + 1)

-- the number of the four bytes at an offset
unfoldable pub four_at : List ℕ → ℕ → ℕ
four_at head place = two_at head place + 65536 * two_at head (place + 2)

-- the file size that the header states, from the picture's first byte on
abbrev pub file_size : List ℕ → ℕ
file_size head = four_at head 2

-- the offset of the first row
abbrev pub pixel_offset : List ℕ → ℕ
pixel_offset head = four_at head 10

-- the size of the header that begins at offset 14
abbrev pub header_size : List ℕ → ℕ
header_size head = four_at head 14

-- this is the oldest header, which has numbers of two bytes
abbrev pub is_short : List ℕ → Bool
is_short head = nat_eq (header_size head) 12

-- the number of planes that the header states
abbrev pub planes : List ℕ → ℕ
planes head = if is_short head then two_at head 22 else two_at head 26

-- the number of bits of a pixel
abbrev pub bits : List ℕ → ℕ
bits head = if is_short head then two_at head 24 else two_at head 28

-- how the pixels are stored: 0 means uncompressed, and 3 uncompressed with colour masks
abbrev pub compression : List ℕ → ℕ
compression head = if is_short head then 0 else four_at head 30

-- the number of colours in the palette, if this isn't 0
abbrev pub colors_used : List ℕ → ℕ
colors_used head = if is_short head then 0 else four_at head 46

-- the number is negative, if its 32 bits are read with a sign: then it means 2^32 less
abbrev pub is_negative : ℕ → Bool
is_negative n = nat_le 2147483648 n

-- the width that the header states
abbrev pub stated_width : List ℕ → ℕ
stated_width head = if is_short head then two_at head 18 else four_at head 18

-- the height that the header states, which may be negative
abbrev pub stated_height : List ℕ → ℕ
stated_height head = if is_short head then two_at head 20 else four_at head 22

-- the width in pixels, or 0 if the header states a negative one
abbrev pub width : List ℕ → ℕ
width head = if is_negative (stated_width head) then 0 else stated_width head

-- the height in pixels: the header states it as a negative number if the top row comes first
abbrev pub height : List ℕ → ℕ
height head = if is_negative (stated_height head) then 4294967296 - stated_height head else stated_height head

-- the top row comes first, instead of the lowest one
abbrev pub is_top_down : List ℕ → Bool
is_top_down head = is_negative (stated_height head)

-- headers of this size can be read
abbrev pub is_known_size : ℕ → Bool
is_known_size size =
    nat_eq size 12 || nat_eq size 40 || nat_eq size 52 || nat_eq size 56 || nat_eq size 108 || nat_eq size 124

-- the pixels have 1, 4, 8, 24 or 32 bits without masks, or 32 bits with masks
abbrev pub is_known_depth : ℕ → ℕ → Bool
is_known_depth bits compression =
    if nat_eq compression 0 then nat_eq bits 1 || nat_eq bits 4 || nat_eq bits 8 || nat_eq bits 24 || nat_eq bits 32
    else nat_eq compression 3 && nat_eq bits 32

-- the pixels are of a kind that can be read
abbrev pub is_known_kind : List ℕ → Bool
is_known_kind head = nat_eq (planes head) 1 && is_known_depth (bits head) (compression head)

-- the picture has masks
abbrev pub has_masks : List ℕ → Bool
has_masks head = nat_eq (compression head) 3

-- the number of bytes of the masks after a header that doesn't contain them
abbrev pub mask_bytes : List ℕ → ℕ
mask_bytes head = if nat_eq (header_size head) 40 && has_masks head then 12 else 0

-- the masks of red, green and blue are those of a pixel without masks
abbrev pub has_known_masks : List ℕ → Bool
has_known_masks head =
    nat_eq (four_at head 54) 0x00ff0000 && nat_eq (four_at head 58) 0x0000ff00 && nat_eq (four_at head 62) 0x000000ff

-- the pixels are numbers of colours in a palette
abbrev pub has_palette : List ℕ → Bool
has_palette head = nat_le (bits head) 8

-- the palette has no more colours than the pixels can number, and the masks can be read
abbrev pub has_known_colors : List ℕ → Bool
has_known_colors head =
    (not (has_masks head) || has_known_masks head) && (not (has_palette head) || nat_le (colors_used head) (2 ^ bits head))

-- the number of colours in the palette
abbrev pub palette_length : List ℕ → ℕ
palette_length head =
    if has_palette head then (if is_zero (colors_used head) then 2 ^ bits head else colors_used head) else 0

-- the number of bytes of a colour in the palette
abbrev pub color_bytes : List ℕ → ℕ
color_bytes head = if is_short head then 3 else 4

-- the number of bytes of the whole palette
abbrev pub palette_bytes : List ℕ → ℕ
palette_bytes head = color_bytes head * palette_length head

-- the offset of the first byte after the header, its masks and its palette
abbrev pub palette_end : List ℕ → ℕ
palette_end head = 14 + header_size head + mask_bytes head + palette_bytes head

-- the number of bytes of a row, which is a multiple of four
abbrev pub row_length : List ℕ → ℕ
row_length head = 4 * ((width head * bits head + 31) / 32)
