-- The definitions, computed for small pictures.
use Rattle.std.proofs.Common.{◌≡◌, true, false, refl}
use Rattle.bit_image.specs.Image.{white}
use Rattle.demo_pages.specs.declared.bar.Bar.{Bar}
use Rattle.demo_pages.specs.declared.rectangle.Rectangle.{Rectangle}
use Rattle.demo_pages.specs.Generator.{next_state, number_at, state_after}
use Rattle.demo_pages.specs.Picture.{bar_at, inverted_area, is_in_bar, is_in_rectangle, rectangle_at}

-- the first numbers of three pages, computed independently
first_number : number_at 3 ≡ 15547
unfolding next_state
first_number = refl

first_rectangle : rectangle_at 3 ≡ record { left = 187; bottom = 9; width = 9; height = 8 }
unfolding next_state state_after
first_rectangle = refl

first_bar : bar_at (state_after 160 3) ≡ record { left = 98; bottom = 26; run = 2 }
unfolding next_state state_after
first_bar = refl

second_page : state_after 172 3 ≡ 2504790799
unfolding next_state state_after
second_page = refl

-- ####
-- ####      in columns 5 to 8 and rows 7 to 9
-- ####
abbrev block : Rectangle
block = record { left = 5; bottom = 7; width = 4; height = 3 }

its_first_pixel : is_in_rectangle block 5 7 ≡ true
its_first_pixel = refl

its_last_pixel : is_in_rectangle block 8 9 ≡ true
its_last_pixel = refl

right_of_it : is_in_rectangle block 9 9 ≡ false
right_of_it = refl

above_it : is_in_rectangle block 5 10 ≡ false
above_it = refl

-- two inversions of a pixel leave it white
twice : inverted_area (inverted_area white (is_in_rectangle block)) (is_in_rectangle block) 6 8 ≡ false
twice = refl

-- a bar that begins at pixel (10, 20) and rises by a row every two columns
abbrev slope : Bar
slope = record { left = 10; bottom = 20; run = 2 }

the_lowest_pixel : is_in_bar slope 10 20 ≡ true
the_lowest_pixel = refl

as_low_in_the_second_column : is_in_bar slope 11 20 ≡ true
as_low_in_the_second_column = refl

higher_in_the_third_column : is_in_bar slope 12 20 ≡ false
higher_in_the_third_column = refl

six_rows : is_in_bar slope 12 26 ≡ true
six_rows = refl

no_seventh_row : is_in_bar slope 12 27 ≡ false
no_seventh_row = refl

the_last_column : is_in_bar slope 73 51 ≡ true
the_last_column = refl

behind_the_last_column : is_in_bar slope 74 52 ≡ false
behind_the_last_column = refl
