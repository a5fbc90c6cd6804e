-- The definitions, checked on small pages of colours.
use Rattle.std.proofs.Common.{◌≡◌, refl, true, false, [], ◌∷◌, ◌++◌}
use Rattle.std.specs.Prelude.{codes}
use Rattle.bitmap_input.specs.Cut.{is_by_end}
use Rattle.bitmap_input.specs.Cut.Kind.{BadHeader, Truncated, BadRaster}
use Rattle.bitmap_input.specs.Cut.FileEnd.{Refused}
use Rattle.bitmap_input.specs.Cut.Cut.{Stops}
use Rattle.bitmap_input.specs.Raw.{Raw, picture_of}
use Rattle.bitmap_input.specs.Raw.Entry.{Triple}
use Rattle.bitmap_input.specs.Front.{front, page_at}
use Rattle.bitmap_input.specs.Front.Answer.{Page}

-- a red pixel, and one of green and blue
red_and_cyan : Raw
red_and_cyan = record { width = 2; height = 1; rows = (Triple 255 0 0 255 ∷ Triple 0 255 255 255 ∷ []) ∷ []; least_length = 0 }

plain : front false (codes "P3 2 1 255 255 0 0 0 255 255\n") ≡ Page red_and_cyan 28
unfolding red_and_cyan
plain = refl

raw : front false (codes "P6 2 1 255\n" ++ 255 ∷ 0 ∷ 0 ∷ 0 ∷ 255 ∷ 255 ∷ []) ≡ Page red_and_cyan 17
unfolding red_and_cyan
raw = refl

-- at level 1/2 the first pixel is black, and the second one isn't; inverted it is the other way around
first_pixel : picture_of 500000 false red_and_cyan 0 0 ≡ true
unfolding red_and_cyan
first_pixel = refl

second_pixel : picture_of 500000 false red_and_cyan 1 0 ≡ false
unfolding red_and_cyan
second_pixel = refl

first_inverted : picture_of 500000 true red_and_cyan 0 0 ≡ false
unfolding red_and_cyan
first_inverted = refl

-- samples of two bytes, the most significant byte first: sums of 98303 and 98302 lie on both sides of level 1/2
just_white : Raw
just_white = record { width = 1; height = 1; rows = (Triple 32768 32768 32767 65535 ∷ []) ∷ []; least_length = 0 }

wide : front false (codes "P6 1 1 65535\n" ++ 0x80 ∷ 0 ∷ 0x80 ∷ 0 ∷ 0x7f ∷ 0xff ∷ []) ≡ Page just_white 19
unfolding just_white
wide = refl

wide_white : picture_of 500000 false just_white 0 0 ≡ false
unfolding just_white
wide_white = refl

just_black : Raw
just_black = record { width = 1; height = 1; rows = (Triple 32768 32767 32767 65535 ∷ []) ∷ []; least_length = 0 }

wide_black : picture_of 500000 false just_black 0 0 ≡ true
unfolding just_black
wide_black = refl

-- more digits could follow the last number, but no byte can change the last raw sample
last_number : is_by_end (page_at false (codes "P3 1 1 9 4 4 4")) ≡ true
last_number = refl

number_and_more : is_by_end (page_at false (codes "P3 1 1 9 4 4 4\n")) ≡ false
number_and_more = refl

last_byte : is_by_end (page_at false (codes "P6 1 1 9 " ++ 4 ∷ 4 ∷ 4 ∷ [])) ≡ false
last_byte = refl

-- pages that are refused
no_blue : page_at false (codes "P3 1 1 255 0 0") ≡ Stops true (Refused Truncated)
no_blue = refl

no_digit : page_at false (codes "P3 1 1 255 0 0 x") ≡ Stops false (Refused BadRaster)
no_digit = refl

no_raster : page_at false (codes "P6 1 1 255\n") ≡ Stops true (Refused Truncated)
no_raster = refl

two_samples : page_at false (codes "P6 1 1 255\n" ++ 1 ∷ 2 ∷ []) ≡ Stops true (Refused Truncated)
two_samples = refl

no_white : page_at false (codes "P6 1 1 0\n") ≡ Stops false (Refused BadHeader)
no_white = refl
