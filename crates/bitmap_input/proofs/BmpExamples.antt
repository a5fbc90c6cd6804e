-- The definitions of BMP, checked on small pictures.
use Rattle.std.proofs.Common.{◌≡◌, refl, ℕ, true, false, List, [], ◌∷◌, ◌++◌, take, drop}
use Rattle.bitmap_input.specs.Cut.Kind.{BmpKind, Truncated, ZeroSide, BadOffset}
use Rattle.bitmap_input.specs.Cut.FileEnd.{Refused}
use Rattle.bitmap_input.specs.Cut.Cut.{Stops}
use Rattle.std.specs.Prelude.{codes}
use Rattle.bitmap_input.specs.Cut.FileEnd.{End}
use Rattle.bitmap_input.specs.FilePages.{FilePages}
use Rattle.bitmap_input.specs.FilePages.FilePages.{Ended, Next}
use Rattle.bitmap_input.specs.Raw.{Raw}
use Rattle.bitmap_input.proofs.Examples.{bits_page}
use Rattle.bitmap_input.specs.Raw.Entry.{Color}
use Rattle.bitmap_input.specs.BmpHeader.{byte_at, two_at, four_at}
use Rattle.bitmap_input.specs.BmpRaster.{bit_at, half_at, palette_color}
use Rattle.bitmap_input.specs.Front.{front, page_at}
use Rattle.bitmap_input.specs.Front.Answer.{Page}

-- one by two pixels of 24 bits, from the top: black above white
two_high : List ℕ
two_high =
    0x42 ∷ 0x4d ∷ 0x3e ∷ 0 ∷ 0 ∷ 0 ∷ 0 ∷ 0 ∷ 0 ∷ 0 ∷ 0x36 ∷ 0 ∷ 0 ∷ 0 ∷ 0x28 ∷ 0 ∷ 0 ∷ 0 ∷ 1 ∷ 0 ∷ 0 ∷ 0 ∷
    0xfe ∷ 0xff ∷ 0xff ∷ 0xff ∷ 1 ∷ 0 ∷ 0x18 ∷ 0 ∷ 0 ∷ 0 ∷ 0 ∷ 0 ∷ 8 ∷ 0 ∷ 0 ∷ 0 ∷ 0 ∷ 0 ∷ 0 ∷ 0 ∷ 0 ∷ 0 ∷ 0 ∷ 0 ∷
    0 ∷ 0 ∷ 0 ∷ 0 ∷ 0 ∷ 0 ∷ 0 ∷ 0 ∷ 0 ∷ 0 ∷ 0 ∷ 0 ∷ 0xff ∷ 0xff ∷ 0xff ∷ 0 ∷ []

-- the page that it holds, if it states this file size
two_rows : ℕ → Raw
two_rows size = record { width = 1; height = 2; rows = (Color 0 0 0 ∷ []) ∷ (Color 255 255 255 ∷ []) ∷ []; least_length = size }

two_high_read : front false two_high ≡ Page (two_rows 62) 62
unfolding two_high two_rows byte_at two_at four_at
two_high_read = refl

-- the picture states two more bytes than it has, and comes after a blank and before another page
two_longer : List ℕ
unfolding two_high
two_longer = 32 ∷ take 2 two_high ++ 64 ∷ drop 3 two_high ++ codes "xyP1 1 1 1"

claimed_bytes : FilePages false two_longer (two_rows 64 ∷ bits_page 1 1 ((true ∷ []) ∷ []) ∷ []) End
unfolding two_high two_longer two_rows byte_at two_at four_at
claimed_bytes = Next {used = 63} refl (Next {used = 8} refl (Ended refl))

-- it states a file size greater than the file's
far_longer : FilePages false (take 2 two_high ++ 255 ∷ drop 3 two_high) (two_rows 255 ∷ []) End
unfolding two_high two_rows byte_at two_at four_at
far_longer = Next {used = 62} refl (Ended refl)

one_byte_short : page_at false (take 61 two_high) ≡ Stops true (Refused Truncated)
unfolding two_high byte_at two_at four_at
one_byte_short = refl

-- a header of 8 bits with run-length coding
run_length_coded : page_at false (take 28 two_high ++ 8 ∷ 0 ∷ 1 ∷ drop 31 (take 54 two_high)) ≡ Stops false (Refused BmpKind)
unfolding two_high byte_at two_at four_at
run_length_coded = refl

-- the first pixel is the most significant bit, or the upper half
bits_from_the_left : (bit_at (0x40 ∷ []) 0 ≡ 0) × (bit_at (0x40 ∷ []) 1 ≡ 1)
bits_from_the_left = (refl, refl)

halves_from_the_left : (half_at (0x12 ∷ 0x34 ∷ []) 1 ≡ 2) × (half_at (0x12 ∷ 0x34 ∷ []) 2 ≡ 3)
halves_from_the_left = (refl, refl)

-- a width of 0 is reported before an offset of 0, and both before missing bytes
zero_before_offset : page_at false (take 10 two_high ++ 0 ∷ 0 ∷ 0 ∷ 0 ∷ take 4 (drop 14 two_high) ++ 0 ∷ drop 19 (take 54 two_high)) ≡ Stops false (Refused ZeroSide)
unfolding two_high byte_at two_at four_at
zero_before_offset = refl

early_offset : page_at false (take 10 two_high ++ 53 ∷ drop 11 (take 54 two_high)) ≡ Stops false (Refused BadOffset)
unfolding two_high byte_at two_at four_at
early_offset = refl

-- colours beyond the palette are black
past_the_palette : (palette_color 1 4 (9 ∷ 8 ∷ 7 ∷ 0 ∷ []) 0 ≡ Color 7 8 9) × (palette_color 1 4 (9 ∷ 8 ∷ 7 ∷ 0 ∷ []) 1 ≡ Color 0 0 0)
past_the_palette = (refl, refl)
