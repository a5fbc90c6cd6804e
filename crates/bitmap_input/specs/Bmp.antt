-- A BMP picture after its magic number `BM` (Microsoft's "Bitmap Storage"). The choice of pictures
-- that can be read, and the order of the checks, are this crate's own.
use Rattle.std.specs.Prelude.{ℕ, ◌-◌, Bool, true, false, List, ◌++◌, nat_le}
use Rattle.bitmap_input.specs.Cut.{Kind, Cut, ◌>>=◌}
use Rattle.bitmap_input.specs.Cut.Kind.{BmpKind, BadOffset}
use Rattle.bitmap_input.specs.Cut.FileEnd.{Refused}
use Rattle.bitmap_input.specs.Cut.Cut.{Takes, Stops}
use Rattle.bitmap_input.specs.PageParts.{block}
use Rattle.bitmap_input.specs.Sides.{checked}
use Rattle.bitmap_input.specs.Raw.{Raw}
use Rattle.bitmap_input.specs.BmpHeader.{header_size, is_known_size, is_known_kind, mask_bytes, has_known_colors, width, height, pixel_offset, palette_end}
use Rattle.bitmap_input.specs.BmpRaster.{raster}

-- a check of what was read, which takes no bytes
abbrev pub passes : {A : Type 0} → Kind → Bool → A → List ℕ → Cut A
passes kind true x bytes = Takes false x bytes
passes kind false x bytes = Stops false (Refused kind)

-- the header up to its size, which has to be a known one
abbrev pub start : List ℕ → Cut (List ℕ)
start bytes = block 16 bytes >>= λ head rest. passes BmpKind (is_known_size (header_size head)) head rest

-- the rest of the header, of a kind that can be read
abbrev pub info : List ℕ → List ℕ → Cut (List ℕ)
info head bytes =
    block (header_size head - 4) bytes >>= λ more rest. passes BmpKind (is_known_kind (head ++ more)) (head ++ more) rest

-- the masks that follow the header, if it has any
abbrev pub masks : List ℕ → List ℕ → Cut (List ℕ)
masks head bytes =
    block (mask_bytes head) bytes >>= λ more rest. passes BmpKind (has_known_colors (head ++ more)) (head ++ more) rest

-- the sides are in range, and the pixels begin after the palette
abbrev pub placed : List ℕ → List ℕ → Cut (List ℕ)
placed head bytes =
    checked (width head) (height head) bytes >>= λ _ rest.
    passes BadOffset (nat_le (palette_end head) (pixel_offset head)) head rest

-- the header with its masks
abbrev pub header : List ℕ → Cut (List ℕ)
header bytes =
    start bytes >>= λ head rest. info head rest >>= λ head rest. masks head rest >>= λ head rest. placed head rest

-- the whole picture after its magic number
abbrev pub bmp : List ℕ → Cut Raw
bmp bytes = header bytes >>= λ head rest. raster head rest
