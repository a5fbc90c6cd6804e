-- The colour of the majority around a corner (the potrace manual page, turn policy "majority";
-- Selinger, "Potrace", 2003, section 2.1.2).
use Rattle.std.specs.Prelude.{ℕ, zero, suc, ◌+◌, ◌*◌, ◌-◌, Bool, true, false, not, cond, ◌&&◌, ◌||◌, nat_eq, nat_lt, nat_le}
use Rattle.bit_image.specs.Image.{Image}

-- the pixel r columns left of pixel (x, y) and r rows below it
abbrev pub behind : Image → ℕ → ℕ → ℕ → Bool
behind b r x y = nat_le r x && nat_le r y && b (x - r) (y - r)

-- how many of the first n numbers pass a test
abbrev pub count_below : ℕ → (ℕ → Bool) → ℕ
count_below zero f = zero
count_below (suc n) f = cond (f n) (suc (count_below n f)) (count_below n f)

-- the sum over the first n numbers
abbrev pub sum_below : ℕ → (ℕ → ℕ) → ℕ
sum_below zero f = zero
sum_below (suc n) f = sum_below n f + f n

-- cell (i, j) of a square lies on its rim
abbrev pub is_rim : ℕ → ℕ → ℕ → Bool
is_rim side i j = nat_eq i 0 || nat_eq (suc i) side || nat_eq j 0 || nat_eq (suc j) side

-- the number of black pixels in ring r around a corner: the rim of the square of side 2r with the
-- corner in its middle
unfoldable pub black_in_ring : Image → ℕ → ℕ → ℕ → ℕ
black_in_ring b x y r =
    sum_below (2 * r) (λ i. count_below (2 * r) (λ j. is_rim (2 * r) i j && behind b r (x + i) (y + j)))

-- the number of white pixels in ring r around a corner
unfoldable pub white_in_ring : Image → ℕ → ℕ → ℕ → ℕ
white_in_ring b x y r =
    sum_below (2 * r) (λ i. count_below (2 * r) (λ j. is_rim (2 * r) i j && not (behind b r (x + i) (y + j))))

-- black is more than white, or they are equal and what comes next is true
abbrev pub is_more : ℕ → ℕ → Bool → Bool
is_more black white next = cond (nat_lt white black) true (cond (nat_lt black white) false next)

-- the first of the rings 2, 3 and 4 that has more of one colour decides; if all tie, black isn't the majority
unfoldable pub major : Image → ℕ → ℕ → Bool
major b x y =
    is_more (black_in_ring b x y 2) (white_in_ring b x y 2)
    (is_more (black_in_ring b x y 3) (white_in_ring b x y 3)
    (is_more (black_in_ring b x y 4) (white_in_ring b x y 4) false))
