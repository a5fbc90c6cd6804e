-- A mask of the square's word selects the pixels of a ring.
use Rattle.std.proofs.Common.{◌≡◌, ℕ, zero, suc, ◌+◌, ◌-◌, ◌*◌, ◌/◌, ◌%◌, ◌^◌, ◌<◌, Bool, cond, ◌&&◌, nat_eq, nat_le, refl, ap, sym, ◌∙◌, inl, inr, arith, add-one}
use Rattle.std.specs.Int.{bit_at}
use Rattle.std.specs.Int.RustNames.{bit_and, count_ones}
use Rattle.std.proofs.lemmas.Bool.{cases_lt, le-leb, lt-leb}
use Rattle.std.proofs.lemmas.Nat.{and_le_l, shr-shr, ones_le_self}
use Rattle.std.proofs.lemmas.Nat.Bits.{bit_at-lt}
use lib.Count.{ones_step}
use Rattle.bit_image.specs.Image.{Image}
use Rattle.bit_image.specs.Words.{is_one}
use Rattle.bit_image.proofs.Bits.{and_turned, is_one-and}
use Rattle.turn_policies.specs.Majority.{behind, count_below, sum_below, is_rim, black_in_ring}
use Rattle.turn_policies.specs.Inner.Square.{IsSquare}
use Rattle.turn_policies.proofs.SumsBelow.{sum_below-same, count_below-sum}

-- the ones of a word are those among its first k bits and those after them
ones_first : (n k : ℕ) → count_ones n ≡ sum_below k (λ i. bit_at n i) + count_ones (n / 2 ^ k)
ones_first n zero = let whole : n ≡ n / 1 = omega arith in omega (arith, ap count_ones whole)
ones_first n (suc k) =
    let rest : n / 2 ^ k / 2 ≡ n / 2 ^ suc k = shr-shr n k 1 ∙ ap (λ m. n / 2 ^ m) (add-one k) in
    let step : count_ones (n / 2 ^ k) ≡ n / 2 ^ k % 2 + count_ones (n / 2 ^ suc k) = ones_step (n / 2 ^ k) ∙ ap (λ m. n / 2 ^ k % 2 + count_ones m) rest in
    omega (arith, ones_first n k, step)

as_bit : (p : ℕ) → p < 2 → p ≡ cond (nat_eq p 1) 1 0
as_bit zero h = refl
as_bit (suc zero) h = refl
as_bit (suc (suc p)) h = absurd (omega arith)

-- the number of ones of a masked word is a sum over its 64 bits
masked_ones : (n mask : ℕ) → n < 2 ^ 64 → count_ones (bit_and n mask) ≡ sum_below 64 (λ k. cond (is_one mask k && is_one n k) 1 0)
unfolding is_one
masked_ones n mask p =
    let m : ℕ = bit_and n mask in
    let small : m < 2 ^ 64 = omega (arith, and_le_l n mask) in
    let past : m / 2 ^ 64 ≡ 0 = omega arith in
    let ones : count_ones m ≡ sum_below 64 (λ k. bit_at m k) = omega (arith, ones_first m 64, ap count_ones past, ones_le_self 0) in
    ones
    ∙ sum_below-same 64 (λ k. bit_at m k) (λ k. cond (is_one mask k && is_one n k) 1 0)
    (λ k below. as_bit (bit_at m k) (bit_at-lt m k) ∙ ap (λ t. cond t 1 0) (is_one-and n mask k ∙ and_turned (is_one n k) (is_one mask k)))

-- the masks have ones exactly in the cells of the rings, in a square of side 8
shape_2 : (f : ℕ → Bool) → sum_below 64 (λ k. cond (is_one 66125924401152 k && f k) 1 0) ≡ sum_below 4 (λ i. sum_below 4 (λ j. cond (is_rim 4 i j && f (8 * (j + 2) + (i + 2))) 1 0))
unfolding is_one
shape_2 f = omega arith

shape_3 : (f : ℕ → Bool) → sum_below 64 (λ k. cond (is_one 35538699412471296 k && f k) 1 0) ≡ sum_below 6 (λ i. sum_below 6 (λ j. cond (is_rim 6 i j && f (8 * (j + 1) + (i + 1))) 1 0))
unfolding is_one
shape_3 f = omega arith

shape_4 : (f : ℕ → Bool) → sum_below 64 (λ k. cond (is_one 18411139144890810879 k && f k) 1 0) ≡ sum_below 8 (λ i. sum_below 8 (λ j. cond (is_rim 8 i j && f (8 * (j + 0) + (i + 0))) 1 0))
unfolding is_one
shape_4 f = omega arith

le_shift : (r d x : ℕ) → nat_le r x ≡ nat_le (r + d) (x + d)
le_shift r d x = elim (cases_lt x r) [
  | inl less ↦ lt-leb r x less ∙ sym (lt-leb (r + d) (x + d) (omega arith))
  | inr more ↦ le-leb r x more ∙ sym (le-leb (r + d) (x + d) (omega arith))
]

behind_shift : (b : Image) (r d x y : ℕ) → behind b r x y ≡ behind b (r + d) (x + d) (y + d)
behind_shift b r d x y =
    let columns : x - r ≡ x + d - (r + d) = omega arith in
    let rows : y - r ≡ y + d - (r + d) = omega arith in
    ap (λ t. t && nat_le r y && b (x - r) (y - r)) (le_shift r d x)
    ∙ ap (λ t. nat_le (r + d) (x + d) && t && b (x - r) (y - r)) (le_shift r d y)
    ∙ ap (λ n. nat_le (r + d) (x + d) && nat_le (r + d) (y + d) && b n (y - r)) columns
    ∙ ap (λ n. nat_le (r + d) (x + d) && nat_le (r + d) (y + d) && b (x + d - (r + d)) n) rows

-- ring r of the square is ring r around the corner
ring_of : (pixels : ℕ) (b : Image) (x y r d : ℕ) → r + d ≡ 4 → IsSquare pixels b x y
    → sum_below (2 * r) (λ i. sum_below (2 * r) (λ j. cond (is_rim (2 * r) i j && is_one pixels (8 * (j + d) + (i + d))) 1 0)) ≡ black_in_ring b x y r
unfolding black_in_ring
ring_of pixels b x y r d e square =
    sum_below-same (2 * r) (λ i. sum_below (2 * r) (λ j. cond (is_rim (2 * r) i j && is_one pixels (8 * (j + d) + (i + d))) 1 0))
    (λ i. count_below (2 * r) (λ j. is_rim (2 * r) i j && behind b r (x + i) (y + j)))
    (λ i p.
    sum_below-same (2 * r) (λ j. cond (is_rim (2 * r) i j && is_one pixels (8 * (j + d) + (i + d))) 1 0) (λ j. cond (is_rim (2 * r) i j && behind b r (x + i) (y + j)) 1 0)
    (λ j q.
    let columns : x + i + d ≡ x + (i + d) = omega arith in
    let rows : y + j + d ≡ y + (j + d) = omega arith in
    ap (λ t. cond (is_rim (2 * r) i j && t) 1 0)
    (square (i + d) (j + d) (omega arith) (omega arith)
    ∙ sym (behind_shift b r d (x + i) (y + j) ∙ ap (λ n. behind b n (x + i + d) (y + j + d)) e ∙ ap (λ n. behind b 4 n (y + j + d)) columns ∙ ap (behind b 4 (x + (i + d))) rows)))
    ∙ sym (count_below-sum (2 * r) (λ j. is_rim (2 * r) i j && behind b r (x + i) (y + j))))

pub ones_2 : (pixels : ℕ) (b : Image) (x y : ℕ) → pixels < 2 ^ 64 → IsSquare pixels b x y → count_ones (bit_and pixels 66125924401152) ≡ black_in_ring b x y 2
ones_2 pixels b x y p square = masked_ones pixels 66125924401152 p ∙ shape_2 (is_one pixels) ∙ ring_of pixels b x y 2 2 refl square

pub ones_3 : (pixels : ℕ) (b : Image) (x y : ℕ) → pixels < 2 ^ 64 → IsSquare pixels b x y → count_ones (bit_and pixels 35538699412471296) ≡ black_in_ring b x y 3
ones_3 pixels b x y p square = masked_ones pixels 35538699412471296 p ∙ shape_3 (is_one pixels) ∙ ring_of pixels b x y 3 1 refl square

pub ones_4 : (pixels : ℕ) (b : Image) (x y : ℕ) → pixels < 2 ^ 64 → IsSquare pixels b x y → count_ones (bit_and pixels 18411139144890810879) ≡ black_in_ring b x y 4
ones_4 pixels b x y p square = masked_ones pixels 18411139144890810879 p ∙ shape_4 (is_one pixels) ∙ ring_of pixels b x y 4 0 refl square
