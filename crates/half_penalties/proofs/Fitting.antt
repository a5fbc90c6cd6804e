-- Numbers that fit their types.
use Rattle.std.proofs.Common.{◌≡◌, ℕ, ◌+◌, ◌*◌, ◌<◌, ◌≤◌, ◌^◌, ℤ, pos, ◌+ℤ◌, ◌-ℤ◌, ◌*ℤ◌, w64, to_z, of_z, refl, ap, ◌∙◌, arith}
use Rattle.std.proofs.lemmas.Int.{ints, fits_signed_from_abs}
use Rattle.std.specs.Prelude.{unsigned_abs}
use Rattle.std.specs.Int.RustNames.{FitsSigned}
use mir.Syntax.{w128}
use Rattle.pt_core.specs.declared.limits.TheConstants.{LONGEST_SIDE, MOST_STEPS}
use Rattle.pt_core.proofs.Sizes.{back, long_back, product_most}
use Rattle.half_penalties.specs.declared.products.Products.{Products}
use Rattle.half_penalties.specs.Inner.HalfPenalties.{IsSlant}
use Rattle.half_penalties.specs.Inner.Products.{along_squares_of, AreHalfSums}

-- the sum of the squares along a diagonal
module _ (p : Products) (slant : ℤ) (sums : AreHalfSums p) (is : IsSlant slant) where
  mixed_most : unsigned_abs (slant *ℤ p.xy) < 2 ^ 46
  mixed_most = let xy = sums.xy in let most = product_most slant p.xy 1 (unsigned_abs p.xy) (omega (arith, is)) (omega arith) in omega arith

  pub along_fits_at_first : FitsSigned w64 (to_z w64 (of_z w64 p.xx) +ℤ to_z w64 (of_z w64 (pos 2 *ℤ to_z w64 (of_z w64 (to_z w64 (of_z w64 slant) *ℤ to_z w64 (of_z w64 p.xy))))))
  along_fits_at_first =
      let small = mixed_most in
      let xx = sums.xx in
      let xy = sums.xy in
      let twice : unsigned_abs (pos 2 *ℤ (slant *ℤ p.xy)) < 2 ^ 47 = omega (arith, ints) in
      rw (back p.xx (omega arith), back slant (omega (arith, is)), back p.xy (omega arith), back (slant *ℤ p.xy) (omega arith), back (pos 2 *ℤ (slant *ℤ p.xy)) (omega arith))
      (fits_signed_from_abs w64 (p.xx +ℤ pos 2 *ℤ (slant *ℤ p.xy)) (omega (arith, ints)))

  abbrev so_far : ℤ
  so_far = to_z w64 (of_z w64 (to_z w64 (of_z w64 p.xx) +ℤ to_z w64 (of_z w64 (pos 2 *ℤ to_z w64 (of_z w64 (to_z w64 (of_z w64 slant) *ℤ to_z w64 (of_z w64 p.xy)))))))

  so_far_is : so_far ≡ p.xx +ℤ pos 2 *ℤ (slant *ℤ p.xy)
  so_far_is =
      let small = mixed_most in
      let xx = sums.xx in
      let xy = sums.xy in
      let twice : unsigned_abs (pos 2 *ℤ (slant *ℤ p.xy)) < 2 ^ 47 = omega (arith, ints) in
      rw (
        back p.xx (omega arith),
        back slant (omega (arith, is)),
        back p.xy (omega arith),
        back (slant *ℤ p.xy) (omega arith),
        back (pos 2 *ℤ (slant *ℤ p.xy)) (omega arith),
        back (p.xx +ℤ pos 2 *ℤ (slant *ℤ p.xy)) (omega (arith, ints)),
      ) refl

  pub along_most : unsigned_abs (along_squares_of p slant) ≤ 2 ^ 48
  along_most =
      let small = mixed_most in
      let xx = sums.xx in
      let yy = sums.yy in
      let twice : unsigned_abs (pos 2 *ℤ (slant *ℤ p.xy)) < 2 ^ 47 = omega (arith, ints) in
      omega (arith, ints)

  pub along_fits : FitsSigned w64 (so_far +ℤ to_z w64 (of_z w64 p.yy))
  along_fits =
      let most = along_most in
      let yy = sums.yy in
      rw (so_far_is, back p.yy (omega arith)) (fits_signed_from_abs w64 (along_squares_of p slant) (omega arith))

  pub along_is : to_z w64 (of_z w64 (so_far +ℤ to_z w64 (of_z w64 p.yy))) ≡ along_squares_of p slant
  along_is =
      let most = along_most in
      let yy = sums.yy in
      rw (so_far_is, back p.yy (omega arith), back (along_squares_of p slant) (omega arith)) refl

-- a difference in 128 bits
module _ (a b : ℤ) (short_a : unsigned_abs a ≤ 2 ^ 92) (short_b : unsigned_abs b ≤ 2 ^ 92) where
  pub long_difference_most : unsigned_abs (a -ℤ b) ≤ 2 ^ 93
  long_difference_most = omega (arith, ints)

  pub long_difference_fits : FitsSigned w128 (to_z w128 (of_z w128 a) -ℤ to_z w128 (of_z w128 b))
  long_difference_fits =
      let most = long_difference_most in
      rw (long_back a (omega arith), long_back b (omega arith)) (fits_signed_from_abs w128 (a -ℤ b) (omega arith))

  pub long_difference_is : to_z w128 (of_z w128 (to_z w128 (of_z w128 a) -ℤ to_z w128 (of_z w128 b))) ≡ a -ℤ b
  long_difference_is =
      let most = long_difference_most in
      rw (long_back a (omega arith), long_back b (omega arith), long_back (a -ℤ b) (omega arith)) refl

-- a product of two sums of products
pub sums_most : (a b : ℤ) → unsigned_abs a ≤ 2 ^ 46 → unsigned_abs b ≤ 2 ^ 46 → unsigned_abs (a *ℤ b) ≤ 2 ^ 92
sums_most a b h k = let most = product_most a b (2 ^ 46) (2 ^ 46) h k in omega arith

-- what a call that was passed two numbers of 64 bits says of their product
pub product_value : (r a b : ℤ) → unsigned_abs a < 2 ^ 63 → unsigned_abs b < 2 ^ 63 → r ≡ to_z w64 (of_z w64 a) *ℤ to_z w64 (of_z w64 b) → r ≡ a *ℤ b
product_value r a b h k e = rw (back a h, back b k) at e

-- a sum without a product
module _ (sum a b : ℤ) (short : unsigned_abs sum ≤ 2 ^ 60) (few : unsigned_abs a ≤ 2 ^ 17) (most : unsigned_abs b ≤ 2 ^ 40) where
  product_short : unsigned_abs (a *ℤ b) ≤ 2 ^ 57
  product_short = let product = product_most a b (2 ^ 17) (2 ^ 40) few most in omega arith

  pub less_product_is : to_z w64 (of_z w64 (to_z w64 (of_z w64 sum) -ℤ to_z w64 (of_z w64 (to_z w64 (of_z w64 a) *ℤ to_z w64 (of_z w64 b))))) ≡ sum -ℤ a *ℤ b
  less_product_is =
      let product = product_short in
      rw (back sum (omega arith), back a (omega arith), back b (omega arith), back (a *ℤ b) (omega arith), back (sum -ℤ a *ℤ b) (omega (arith, ints))) refl

pub less_most : (s a b : ℤ) (m n k : ℕ) → unsigned_abs s ≤ m → unsigned_abs a ≤ n → unsigned_abs b ≤ k → unsigned_abs (s -ℤ a *ℤ b) ≤ m + n * k
less_most s a b m n k h i j = let product = product_most a b n k i j in omega (arith, ints)

-- what a call of `less_product` gives
less_value : (r s a b : ℤ) → unsigned_abs s < 2 ^ 63 → unsigned_abs a < 2 ^ 63 → unsigned_abs b < 2 ^ 63
    → r ≡ to_z w64 (of_z w64 s) -ℤ to_z w64 (of_z w64 a) *ℤ to_z w64 (of_z w64 b) → r ≡ s -ℤ a *ℤ b
less_value r s a b h i j e = rw (back s h, back a i, back b j) at e

-- a sum of offsets that is moved
module _ (r s n a : ℤ) (count : ℕ) (is : n ≡ pos count) (few : count ≤ MOST_STEPS + 1) (sum : unsigned_abs s ≤ (MOST_STEPS + 1) * LONGEST_SIDE) (side : unsigned_abs a ≤ LONGEST_SIDE)
    (e : r ≡ to_z w64 (of_z w64 s) -ℤ to_z w64 (of_z w64 n) *ℤ to_z w64 (of_z w64 a)) where
  count_most : unsigned_abs n ≤ MOST_STEPS + 1
  count_most = rw is few

  pub moved_sum_is : r ≡ s -ℤ pos count *ℤ a
  moved_sum_is = let most = count_most in less_value r s n a (omega arith) (omega arith) (omega arith) e ∙ ap (λ z. s -ℤ z *ℤ a) is

  pub moved_sum_most : unsigned_abs r ≤ 2 ^ 40
  moved_sum_most =
      let most = less_most s (pos count) a ((MOST_STEPS + 1) * LONGEST_SIDE) (MOST_STEPS + 1) LONGEST_SIDE sum few side in
      rw moved_sum_is (omega (arith, most))

  pub moved_sum_passed : unsigned_abs (to_z w64 (of_z w64 r)) ≤ 2 ^ 40
  moved_sum_passed = let most = moved_sum_most in rw (back r (omega arith)) most

-- a sum of products of offsets that is moved
module _ (first s a x : ℤ) (sum : unsigned_abs s ≤ (MOST_STEPS + 1) * (LONGEST_SIDE * LONGEST_SIDE)) (side : unsigned_abs a ≤ LONGEST_SIDE)
    (other : unsigned_abs x ≤ (MOST_STEPS + 1) * LONGEST_SIDE)
    (e : first ≡ to_z w64 (of_z w64 s) -ℤ to_z w64 (of_z w64 a) *ℤ to_z w64 (of_z w64 x)) where
  first_is : first ≡ s -ℤ a *ℤ x
  first_is = less_value first s a x (omega arith) (omega arith) (omega arith) e

  pub first_most : unsigned_abs first ≤ 2 ^ 48
  first_most =
      let most = less_most s a x ((MOST_STEPS + 1) * (LONGEST_SIDE * LONGEST_SIDE)) LONGEST_SIDE ((MOST_STEPS + 1) * LONGEST_SIDE) sum side other in
      rw first_is (omega (arith, most))

  pub first_passed : unsigned_abs (to_z w64 (of_z w64 first)) ≤ 2 ^ 48
  first_passed = let most = first_most in rw (back first (omega arith)) most

  pub moved_products_is : (r b o moved : ℤ) → unsigned_abs b ≤ LONGEST_SIDE → unsigned_abs o ≤ 2 ^ 40 → o ≡ moved
      → r ≡ to_z w64 (of_z w64 first) -ℤ to_z w64 (of_z w64 b) *ℤ to_z w64 (of_z w64 o) → to_z w64 (of_z w64 r) ≡ (s -ℤ a *ℤ x) -ℤ b *ℤ moved
  moved_products_is r b o moved other_side offsets is f =
      let short = first_most in
      let value : r ≡ first -ℤ b *ℤ o = less_value r first b o (omega arith) (omega arith) (omega arith) f in
      let most : unsigned_abs r ≤ 2 ^ 60 = rw value (let m = less_most first b o (2 ^ 48) LONGEST_SIDE (2 ^ 40) short other_side offsets in omega (arith, m)) in
      back r (omega (arith, most)) ∙ value ∙ ap (λ z. z -ℤ b *ℤ o) first_is ∙ ap (λ z. (s -ℤ a *ℤ x) -ℤ b *ℤ z) is
