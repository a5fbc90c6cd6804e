-- The first page of a list of bytes, or what comes instead of one (Netpbm's format pages "pbm",
-- "pgm" and "ppm"): the parts of a page one after another, until one is missing or fails its check.
use Rattle.std.specs.Prelude.{ℕ, ◌-◌, Bool, true, false, ◌&&◌, ◌||◌, List, [], ◌∷◌, length, take, if◌then◌else◌, nat_eq, nat_lt, Option, Some, None}
use Rattle.bitmap_input.specs.Cut.{FileEnd, Cut, ◌>>=◌}
use Rattle.bitmap_input.specs.Cut.Kind.{UnknownFormat, BadHeader}
use Rattle.bitmap_input.specs.Cut.FileEnd.{End, Trailing, Refused}
use Rattle.bitmap_input.specs.Cut.Cut.{Takes, Stops}
use Rattle.bitmap_input.specs.PageParts.{is_zero, spaces, gap, number_behind_gap, space, pixel, block, repeated}
pub use Rattle.bitmap_input.specs.Sides.{checked}
use Rattle.bitmap_input.specs.Bmp.{bmp}
use Rattle.bitmap_input.specs.Raw.{Raw, Entry, entries_page, row_bytes, unpacked}
use Rattle.bitmap_input.specs.Raw.Entry.{Bit}
use Rattle.bitmap_input.specs.Samples.{as_entry, plain_samples, raw_samples_row}
use Rattle.bitmap_input.specs.declared.channels.Channels.{Channels}
use Rattle.bitmap_input.specs.declared.channels.Channels.TheVariants.{Gray, Color}

-- the known formats: plain and raw PBM; plain and raw PGM and PPM, which differ in the samples of a
-- pixel; and BMP
pub data Magic : Type 0 where
  PlainBits : Magic
  RawBits : Magic
  PlainSamples : Channels → Magic
  RawSamples : Channels → Magic
  Picture : Magic

-- there is no known magic number: a first page is of an unknown format, and after a page the bytes are trailing
abbrev pub no_magic : Bool → Bool → Cut Magic
no_magic e true = Stops e Trailing
no_magic e false = Stops e (Refused UnknownFormat)

-- the format that two bytes name: `P` and then `1` to `6`, or `BM`
abbrev pub magic_named : ℕ → ℕ → Option Magic
magic_named a b =
    if nat_eq a 80 then
    (if nat_eq b 49 then Some PlainBits
    else (if nat_eq b 50 then Some (PlainSamples Gray)
    else (if nat_eq b 51 then Some (PlainSamples Color)
    else (if nat_eq b 52 then Some RawBits
    else (if nat_eq b 53 then Some (RawSamples Gray)
    else (if nat_eq b 54 then Some (RawSamples Color) else None))))))
    else (if nat_eq a 66 && nat_eq b 77 then Some Picture else None)

-- a magic number, if its two bytes name a format
abbrev pub magic_of_name : Bool → Option Magic → List ℕ → Cut Magic
magic_of_name later (Some m) rest = Takes false m rest
magic_of_name later None rest = no_magic false later

-- the second byte of a magic number, after the first one
abbrev pub magic_behind : Bool → ℕ → List ℕ → Cut Magic
magic_behind later a [] = no_magic true later
magic_behind later a (b ∷ rest) = magic_of_name later (magic_named a b) rest

-- the magic number of a page: two bytes that name its format; `later` says whether a page came before
abbrev pub magic : Bool → List ℕ → Cut Magic
magic true [] = Stops true End
magic false [] = Stops true (Refused UnknownFormat)
magic true (a ∷ rest) = magic_behind true a rest
magic false (a ∷ rest) = magic_behind false a rest

-- the width and the height
abbrev pub sides : List ℕ → Cut (ℕ × ℕ)
sides bytes = number_behind_gap BadHeader bytes >>= λ width rest. number_behind_gap BadHeader rest >>= λ height rest. checked width height rest

-- the greatest sample for white
abbrev pub greatest_maxval : ℕ
greatest_maxval = 65535

-- the sample for white is in range
abbrev pub checked_maxval : ℕ → List ℕ → Cut ℕ
checked_maxval n bytes =
    if is_zero n || nat_lt greatest_maxval n then Stops false (Refused BadHeader) else Takes false n bytes

-- the sample for white, after a gap
abbrev pub maxval : List ℕ → Cut ℕ
maxval bytes = number_behind_gap BadHeader bytes >>= λ n rest. checked_maxval n rest

-- the character of a pixel, after any whitespace and comments
abbrev pub plain_pixel : List ℕ → Cut Bool
plain_pixel bytes = gap bytes >>= λ _ rest. pixel rest

-- the pixels of a row of whole bytes; bits of the last byte beyond the width are ignored
abbrev pub raw_row : ℕ → List ℕ → Cut (List Bool)
raw_row width bytes = block (row_bytes width) bytes >>= λ row rest. Takes false (take width (unpacked row)) rest

-- `height` rows of values, which are entries, as a page with these sides
abbrev pub rows_raster : {A : Type 0} → (A → Entry) → (List ℕ → Cut (List A)) → ℕ → ℕ → List ℕ → Cut Raw
rows_raster entry row width height bytes =
    repeated row height bytes >>= λ rows rest. Takes false (entries_page entry width height rows) rest

-- what follows the magic number, up to the end of the page
abbrev pub body : Magic → List ℕ → Cut Raw
body PlainBits bytes = sides bytes >>= λ s rest. rows_raster (λ b. Bit b) (repeated plain_pixel s.0) s.0 s.1 rest
body RawBits bytes =
    sides bytes >>= λ s rest. space rest >>= λ _ rest. rows_raster (λ b. Bit b) (raw_row s.0) s.0 s.1 rest
body (PlainSamples c) bytes =
    sides bytes >>= λ s rest. maxval rest >>= λ maxval rest.
    rows_raster (as_entry c maxval) (repeated (plain_samples c) s.0) s.0 s.1 rest
body (RawSamples c) bytes =
    sides bytes >>= λ s rest. maxval rest >>= λ maxval rest. space rest >>= λ _ rest.
    rows_raster (as_entry c maxval) (raw_samples_row c maxval s.0) s.0 s.1 rest
body Picture bytes = bmp bytes

-- the page at the beginning of the bytes, after any whitespace
abbrev pub page_at : Bool → List ℕ → Cut Raw
page_at later bytes = spaces bytes >>= λ _ rest. magic later rest >>= λ m rest. body m rest

-- what a list of bytes gives: its first page with the number of bytes that it takes, or how the
-- pages end
pub data Answer : Type 0 where
  Page : Raw → ℕ → Answer
  Ends : FileEnd → Answer

-- the answer that a cut of these bytes gives
abbrev pub answer_of : List ℕ → Cut Raw → Answer
answer_of bytes (Takes e raw rest) = Page raw (length bytes - length rest)
answer_of bytes (Stops e ending) = Ends ending

-- the answer that a list of bytes gives
abbrev pub front : Bool → List ℕ → Answer
front later bytes = answer_of bytes (page_at later bytes)
