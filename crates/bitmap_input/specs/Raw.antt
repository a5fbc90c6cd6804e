-- Raw pages, as a file holds them: rows of entries, from the top (Netpbm's format pages "pbm",
-- "pgm" and "ppm"); and the page of black and white pixels that a raw page shows at a level.
use Rattle.std.specs.Prelude.{◌≡◌, ℕ, suc, ◌+◌, ◌-◌, ◌/◌, ◌%◌, Bool, false, List, [], ◌∷◌, ◌++◌, map, slice_index_or, if◌then◌else◌, nat_eq, nat_lt}
use Rattle.bit_image.specs.Image.{Image, differ}
use Rattle.threshold_map.specs.Levels.{is_gray_black, is_color_black}
use Rattle.bit_image.specs.Page.{Page, page_of}

-- what the raster holds for a pixel: a bit, which is 1 for black; a gray sample; three samples of
-- red, green and blue; or a colour of three bytes, red, green and blue from 0 to 255. Samples come
-- with the sample for white.
pub data Entry : Type 0 where
  Bit : Bool → Entry
  Sample : ℕ → ℕ → Entry
  Triple : ℕ → ℕ → ℕ → ℕ → Entry
  Color : ℕ → ℕ → ℕ → Entry

-- a page as the file holds it, with its rows from the top; and the least number of bytes that it
-- claims, counted from its magic number, which is 0 if the header says nothing of it
pub record Raw : Type 0 where
  pub width : ℕ
  pub height : ℕ
  pub rows : List (List Entry)
  pub least_length : ℕ

-- a page that has rows of values, each of them an entry
abbrev pub entries_page : {A : Type 0} → (A → Entry) → ℕ → ℕ → List (List A) → Raw
entries_page entry width height rows =
    record { width = width; height = height; rows = map (map entry) rows; least_length = 0 }

-- the number of bytes of a row with eight pixels in a byte
abbrev pub row_bytes : ℕ → ℕ
row_bytes width = (width + 7) / 8

-- the bit of a byte that has this worth
abbrev pub bit_worth : ℕ → ℕ → Bool
bit_worth worth byte = nat_eq ((byte / worth) % 2) 1

-- the eight pixels of a byte, the most significant bit first
abbrev pub bits_of : ℕ → List Bool
bits_of byte =
    bit_worth 128 byte ∷ bit_worth 64 byte ∷ bit_worth 32 byte ∷ bit_worth 16 byte
    ∷ bit_worth 8 byte ∷ bit_worth 4 byte ∷ bit_worth 2 byte ∷ bit_worth 1 byte ∷ []

-- the pixels of a row of bytes
abbrev pub unpacked : List ℕ → List Bool
unpacked [] = []
unpacked (b ∷ bs) = bits_of b ++ unpacked bs

-- whether an entry is a black pixel at a level, in millionths, before any inversion: the level
-- doesn't affect bits
abbrev pub is_dark : ℕ → Entry → Bool
is_dark level (Bit b) = b
is_dark level (Sample v maxval) = is_gray_black level v maxval
is_dark level (Triple r g b maxval) = is_color_black level r g b maxval
is_dark level (Color r g b) = is_color_black level r g b 255

-- whether an entry is a black pixel at a level, in millionths, on a page that is then inverted or not
abbrev pub black : ℕ → Bool → Entry → Bool
black level invert entry = differ invert (is_dark level entry)

-- the image of a raw page: pixel (x, y) comes from entry x of the row that is y rows above the
-- lowest one
abbrev pub picture_of : ℕ → Bool → Raw → Image
picture_of level invert raw x y =
    if nat_lt y raw.height
    then slice_index_or (map (black level invert) (slice_index_or raw.rows (raw.height - suc y) [])) x false
    else false

-- the page that a raw page shows, at a level and inverted or not
abbrev pub shown : ℕ → Bool → Raw → Page
shown level invert raw = page_of raw.width raw.height (picture_of level invert raw)

-- the bitmap is the page that the raw page shows, at a level and inverted or not
abbrev pub IsShown : ℕ → Bool → Page → Raw → Type 0
IsShown level invert page raw = page ≡ shown level invert raw
