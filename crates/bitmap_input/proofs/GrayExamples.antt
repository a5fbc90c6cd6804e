-- The definitions, checked on small gray pages and on inverted ones.
use Rattle.std.proofs.Common.{◌≡◌, refl, ℕ, true, false, List, [], ◌∷◌, ◌++◌}
use Rattle.std.specs.Prelude.{codes}
use Rattle.bitmap_input.specs.Cut.{is_by_end}
use Rattle.bitmap_input.specs.Cut.Kind.{BadHeader, Truncated, BadRaster}
use Rattle.bitmap_input.specs.Cut.FileEnd.{Refused}
use Rattle.bitmap_input.specs.Cut.Cut.{Stops}
use Rattle.bitmap_input.specs.Raw.{Raw, entries_page, picture_of}
use Rattle.bitmap_input.specs.Raw.Entry.{Sample}
use Rattle.bitmap_input.proofs.Examples.{bits_page}
use Rattle.bitmap_input.specs.Front.{front, page_at}
use Rattle.bitmap_input.specs.Front.Answer.{Page}

-- a page of gray samples, with `maxval` as white
abbrev pub gray_page : ℕ → ℕ → ℕ → List (List ℕ) → Raw
gray_page maxval width height rows = entries_page (λ v. Sample v maxval) width height rows

-- two samples of two bytes, the most significant byte first
two_samples : Raw
two_samples = gray_page 65535 2 1 ((32767 ∷ 32768 ∷ []) ∷ [])

wide_samples : front false (codes "P5\n2 1\n65535\n" ++ 0x7f ∷ 0xff ∷ 0x80 ∷ 0x00 ∷ []) ≡ Page two_samples 17
unfolding two_samples
wide_samples = refl

-- at level 1/2 the first sample is black, and the second one isn't
first_sample : picture_of 500000 false two_samples 0 0 ≡ true
unfolding two_samples
first_sample = refl

second_sample : picture_of 500000 false two_samples 1 0 ≡ false
unfolding two_samples
second_sample = refl

-- inverted it is the other way around, and everything outside the page stays white
first_inverted : picture_of 500000 true two_samples 0 0 ≡ false
unfolding two_samples
first_inverted = refl

second_inverted : picture_of 500000 true two_samples 1 0 ≡ true
unfolding two_samples
second_inverted = refl

right_of_the_page : picture_of 500000 true two_samples 2 0 ≡ false
unfolding two_samples
right_of_the_page = refl

above_the_page : picture_of 500000 true two_samples 0 1 ≡ false
unfolding two_samples
above_the_page = refl

-- a bit is black or white at any level
black_bit : picture_of 0 false (bits_page 1 1 ((true ∷ []) ∷ [])) 0 0 ≡ true
black_bit = refl

white_bit_inverted : picture_of 0 true (bits_page 1 1 ((false ∷ []) ∷ [])) 0 0 ≡ true
white_bit_inverted = refl

-- a sample has one byte if white is at most 255, and two bytes from 256 on
narrow : front false (codes "P5 2 1 255\n" ++ 0 ∷ 200 ∷ []) ≡ Page (gray_page 255 2 1 ((0 ∷ 200 ∷ []) ∷ [])) 13
narrow = refl

wide : front false (codes "P5 1 1 256\n" ++ 1 ∷ 0 ∷ []) ≡ Page (gray_page 256 1 1 ((256 ∷ []) ∷ [])) 13
wide = refl

-- samples as decimal numbers, with a comment between them; one is greater than white
plain : front false (codes "P2 2 1 9 4#\n99") ≡ Page (gray_page 9 2 1 ((4 ∷ 99 ∷ []) ∷ [])) 14
plain = refl

-- more digits could follow the last number, but no byte can change the last raw sample
last_number : is_by_end (page_at false (codes "P2 1 1 9 4")) ≡ true
last_number = refl

number_and_more : is_by_end (page_at false (codes "P2 1 1 9 4\n")) ≡ false
number_and_more = refl

last_byte : is_by_end (page_at false (codes "P5 1 1 9 " ++ 4 ∷ [])) ≡ false
last_byte = refl

-- pages that are refused
no_white : page_at false (codes "P5 1 1 0\n") ≡ Stops false (Refused BadHeader)
no_white = refl

too_white : page_at false (codes "P2 1 1 65536") ≡ Stops true (Refused BadHeader)
too_white = refl

no_space : page_at false (codes "P5 1 1 255x") ≡ Stops false (Refused BadHeader)
no_space = refl

no_gap : page_at false (codes "P2 1 1 255x") ≡ Stops false (Refused BadRaster)
no_gap = refl

no_digit : page_at false (codes "P2 1 1 255 x") ≡ Stops false (Refused BadRaster)
no_digit = refl

no_more : page_at false (codes "P2 1 1 255 ") ≡ Stops true (Refused Truncated)
no_more = refl

half_a_sample : page_at false (codes "P5 1 1 256 " ++ 0 ∷ []) ≡ Stops true (Refused Truncated)
half_a_sample = refl
