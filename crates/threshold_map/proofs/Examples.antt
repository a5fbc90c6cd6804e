-- The definitions, checked in the middle and at both ends of the scale.
use Rattle.std.proofs.Common.{◌≡◌, refl, true, false}
use Rattle.threshold_map.specs.Levels.{is_gray_black, is_color_black}

-- at level 1/2 a sample of 127 in 255 is black, and 128 isn't
below_half : is_gray_black 500000 127 255 ≡ true
below_half = refl

above_half : is_gray_black 500000 128 255 ≡ false
above_half = refl

-- a sample that is exactly at the level is black
level_itself : is_gray_black 500000 1 2 ≡ true
level_itself = refl

-- at level 0 a sample of 0 is black, and at level 1 full white is
no_light : is_gray_black 0 0 255 ≡ true
no_light = refl

some_light : is_gray_black 0 1 65535 ≡ false
some_light = refl

full_white : is_gray_black 1000000 255 255 ≡ true
full_white = refl

-- a sample greater than `maxval` is brighter than white
above_white : is_gray_black 1000000 256 255 ≡ false
above_white = refl

-- pure red is one third of white, and yellow two thirds
red : is_color_black 333333 255 0 0 255 ≡ false
red = refl

red_at_the_next_level : is_color_black 333334 255 0 0 255 ≡ true
red_at_the_next_level = refl

yellow : is_color_black 500000 255 255 0 255 ≡ false
yellow = refl

-- at level 1/2 a sum of 98302 in three times 65535 is black, and 98303 isn't
below_half_of_white : is_color_black 500000 32768 32767 32767 65535 ≡ true
below_half_of_white = refl

above_half_of_white : is_color_black 500000 32768 32768 32767 65535 ≡ false
above_half_of_white = refl

-- a sample greater than `maxval` isn't cut off in the sum
above_the_greatest : is_color_black 500000 3 0 0 2 ≡ true
above_the_greatest = refl
