-- What a BMP picture leaves are the last bytes of its list, and they begin after its last row.
use Rattle.std.proofs.Common.{ℕ, ◌-◌, Bool, true, false, List, ◌++◌, map}
use Rattle.std.specs.Prelude.{nat_le}
use Rattle.std.specs.List.{range_with_len}
use Rattle.bitmap_input.specs.Cut.{Kind, ◌>>=◌}
use Rattle.bitmap_input.specs.Cut.Kind.{BmpKind, BadOffset}
use Rattle.bitmap_input.specs.Cut.FileEnd.{Refused}
use Rattle.bitmap_input.specs.Cut.Cut.{Takes}
use Rattle.bitmap_input.specs.PageParts.{block, repeated}
use Rattle.bitmap_input.specs.Sides.{checked}
use Rattle.bitmap_input.specs.BmpHeader.{header_size, is_known_size, is_known_kind, mask_bytes, has_known_colors, width, height, pixel_offset, palette_bytes, palette_end, row_length, bits, palette_length, color_bytes}
use Rattle.bitmap_input.specs.BmpRaster.{palette_color, pixel_in, bmp_row, picture, raster}
use Rattle.bitmap_input.specs.Bmp.{passes, start, info, masks, placed, header, bmp}
use Rattle.bitmap_input.proofs.LastBytes.{LeavesEnd, all_rest, keeps_take, keeps_stop, keeps_bind, keeps_block, keeps_times, keeps_checked}

keeps_passes : {A : Type 0} (kind : Kind) (t : Bool) (x : A) (bytes : List ℕ) → LeavesEnd bytes (passes kind t x bytes)
keeps_passes kind true x bytes = keeps_take bytes false x bytes (all_rest bytes)
keeps_passes kind false x bytes = keeps_stop bytes false (Refused kind)

keeps_start : (bytes : List ℕ) → LeavesEnd bytes (start bytes)
keeps_start bytes =
    keeps_bind bytes (block 16 bytes) (λ head rest. passes BmpKind (is_known_size (header_size head)) head rest) (keeps_block 16 bytes)
    (λ head rest. keeps_passes BmpKind (is_known_size (header_size head)) head rest)

keeps_info : (head bytes : List ℕ) → LeavesEnd bytes (info head bytes)
keeps_info head bytes =
    keeps_bind bytes (block (header_size head - 4) bytes) (λ more rest. passes BmpKind (is_known_kind (head ++ more)) (head ++ more) rest)
    (keeps_block (header_size head - 4) bytes) (λ more rest. keeps_passes BmpKind (is_known_kind (head ++ more)) (head ++ more) rest)

keeps_masks : (head bytes : List ℕ) → LeavesEnd bytes (masks head bytes)
keeps_masks head bytes =
    keeps_bind bytes (block (mask_bytes head) bytes) (λ more rest. passes BmpKind (has_known_colors (head ++ more)) (head ++ more) rest)
    (keeps_block (mask_bytes head) bytes) (λ more rest. keeps_passes BmpKind (has_known_colors (head ++ more)) (head ++ more) rest)

keeps_placed : (head bytes : List ℕ) → LeavesEnd bytes (placed head bytes)
keeps_placed head bytes =
    keeps_bind bytes (checked (width head) (height head) bytes) (λ _ rest. passes BadOffset (nat_le (palette_end head) (pixel_offset head)) head rest)
    (keeps_checked (width head) (height head) bytes) (λ _ rest. keeps_passes BadOffset (nat_le (palette_end head) (pixel_offset head)) head rest)

keeps_header : (bytes : List ℕ) → LeavesEnd bytes (header bytes)
keeps_header bytes =
    keeps_bind bytes (start bytes) (λ head rest. info head rest >>= λ head rest. masks head rest >>= λ head rest. placed head rest) (keeps_start bytes)
    (λ head rest. keeps_bind rest (info head rest) (λ head rest. masks head rest >>= λ head rest. placed head rest) (keeps_info head rest)
    (λ head rest. keeps_bind rest (masks head rest) (λ head rest. placed head rest) (keeps_masks head rest) keeps_placed))

keeps_row_of : (head palette bytes : List ℕ) → LeavesEnd bytes (bmp_row head palette bytes)
keeps_row_of head palette bytes =
    keeps_bind bytes (block (row_length head) bytes) (λ row rest. Takes false (map (pixel_in (bits head) (palette_color (palette_length head) (color_bytes head) palette) row) (range_with_len 0 (width head))) rest)
    (keeps_block (row_length head) bytes)
    (λ row rest. keeps_take rest false (map (pixel_in (bits head) (palette_color (palette_length head) (color_bytes head) palette) row) (range_with_len 0 (width head))) rest (all_rest rest))

keeps_raster : (head bytes : List ℕ) → LeavesEnd bytes (raster head bytes)
keeps_raster head bytes =
    keeps_bind bytes (block (palette_bytes head) bytes)
    (λ palette rest. block (pixel_offset head - palette_end head) rest >>= λ _ rest. repeated (bmp_row head palette) (height head) rest >>= λ rows rest. Takes false (picture head rows) rest)
    (keeps_block (palette_bytes head) bytes)
    (λ palette rest. keeps_bind rest (block (pixel_offset head - palette_end head) rest)
    (λ _ rest. repeated (bmp_row head palette) (height head) rest >>= λ rows rest. Takes false (picture head rows) rest)
    (keeps_block (pixel_offset head - palette_end head) rest)
    (λ _ rest. keeps_bind rest (repeated (bmp_row head palette) (height head) rest) (λ rows rest. Takes false (picture head rows) rest)
    (keeps_times (bmp_row head palette) (keeps_row_of head palette) (height head) rest)
    (λ rows rest. keeps_take rest false (picture head rows) rest (all_rest rest))))

pub keeps_bmp : (bytes : List ℕ) → LeavesEnd bytes (bmp bytes)
keeps_bmp bytes = keeps_bind bytes (header bytes) raster (keeps_header bytes) keeps_raster
