-- A BMP picture that bytes added couldn't change stays the same when bytes are added.
use Rattle.std.proofs.Common.{ℕ, ◌-◌, Bool, true, false, List, ◌++◌, map}
use Rattle.std.specs.Prelude.{nat_le}
use Rattle.std.specs.List.{range_with_len}
use Rattle.bitmap_input.specs.Cut.{Kind}
use Rattle.bitmap_input.specs.Cut.Kind.{BmpKind, BadOffset}
use Rattle.bitmap_input.specs.Cut.FileEnd.{Refused}
use Rattle.bitmap_input.specs.PageParts.{block, repeated}
use Rattle.bitmap_input.specs.Raw.{Entry}
use Rattle.bitmap_input.specs.Sides.{checked}
use Rattle.bitmap_input.specs.BmpHeader.{header_size, is_known_size, is_known_kind, mask_bytes, has_known_colors, width, height, pixel_offset, palette_bytes, palette_end, row_length, bits, palette_length, color_bytes}
use Rattle.bitmap_input.specs.BmpRaster.{color_row, palette_color, pixel_in, bmp_row, picture, raster}
use Rattle.bitmap_input.specs.Bmp.{passes, start, info, masks, placed, header, bmp}
use Rattle.bitmap_input.proofs.AddedBytes.{Stays, stays_bind, stop_stays, take_stays, block_stays, times_stay, checked_stays}

pub passes_stays : {A : Type 0} (kind : Kind) (t : Bool) (x : A) → Stays (passes kind t x)
passes_stays kind true x = take_stays false x
passes_stays kind false x = stop_stays false (Refused kind)

pub start_stays : Stays start
start_stays bytes more not_end =
    stays_bind (block 16 bytes) (block 16 (bytes ++ more)) _ more
    (λ head. passes_stays BmpKind (is_known_size (header_size head)) head) (block_stays 16 bytes more) not_end

pub info_stays : (head : List ℕ) → Stays (info head)
info_stays head bytes more not_end =
    stays_bind (block (header_size head - 4) bytes) (block (header_size head - 4) (bytes ++ more)) _ more
    (λ xs. passes_stays BmpKind (is_known_kind (head ++ xs)) (head ++ xs)) (block_stays (header_size head - 4) bytes more) not_end

pub masks_stay : (head : List ℕ) → Stays (masks head)
masks_stay head bytes more not_end =
    stays_bind (block (mask_bytes head) bytes) (block (mask_bytes head) (bytes ++ more)) _ more
    (λ xs. passes_stays BmpKind (has_known_colors (head ++ xs)) (head ++ xs)) (block_stays (mask_bytes head) bytes more) not_end

pub placed_stays : (head : List ℕ) → Stays (placed head)
placed_stays head bytes more not_end =
    stays_bind (checked (width head) (height head) bytes) (checked (width head) (height head) (bytes ++ more)) _ more
    (λ _. passes_stays BadOffset (nat_le (palette_end head) (pixel_offset head)) head) (checked_stays (width head) (height head) bytes more) not_end

pub header_stays : Stays header
header_stays bytes more not_end =
    stays_bind (start bytes) (start (bytes ++ more)) _ more
    (λ head bytes more not_end. stays_bind (info head bytes) (info head (bytes ++ more)) _ more
    (λ head bytes more not_end. stays_bind (masks head bytes) (masks head (bytes ++ more)) _ more
    placed_stays (masks_stay head bytes more) not_end)
    (info_stays head bytes more) not_end)
    (start_stays bytes more) not_end

pub color_row_stays : (n bits : ℕ) (color : ℕ → Entry) (width : ℕ) → Stays (color_row n bits color width)
color_row_stays n bits color width bytes more not_end =
    stays_bind (block n bytes) (block n (bytes ++ more)) _ more
    (λ row. take_stays false (map (pixel_in bits color row) (range_with_len 0 width))) (block_stays n bytes more) not_end

row_of_stays : (head palette : List ℕ) → Stays (bmp_row head palette)
row_of_stays head palette = color_row_stays (row_length head) (bits head) (palette_color (palette_length head) (color_bytes head) palette) (width head)

pub raster_stays : (head : List ℕ) → Stays (raster head)
raster_stays head bytes more not_end =
    stays_bind (block (palette_bytes head) bytes) (block (palette_bytes head) (bytes ++ more)) _ more
    (λ palette bytes more not_end. stays_bind (block (pixel_offset head - palette_end head) bytes) (block (pixel_offset head - palette_end head) (bytes ++ more)) _ more
    (λ _ bytes more not_end. stays_bind (repeated (bmp_row head palette) (height head) bytes) (repeated (bmp_row head palette) (height head) (bytes ++ more)) _ more
    (λ rows. take_stays false (picture head rows)) (times_stay (bmp_row head palette) (row_of_stays head palette) (height head) bytes more) not_end)
    (block_stays (pixel_offset head - palette_end head) bytes more) not_end)
    (block_stays (palette_bytes head) bytes more) not_end

pub bmp_stays : Stays bmp
bmp_stays bytes more not_end =
    stays_bind (header bytes) (header (bytes ++ more)) _ more raster_stays (header_stays bytes more) not_end
