-- Numbers that fit their types.
use Rattle.std.proofs.Common.{◌≡◌, ℕ, ◌+◌, ◌-◌, ◌*◌, ◌<◌, ◌≤◌, ◌^◌, ℤ, pos, ◌+ℤ◌, ◌-ℤ◌, ◌*ℤ◌, ◌≤ℤ◌, w32, w64, to_z, of_z, refl, sym, ap, ◌∙◌, arith}
use Rattle.std.proofs.lemmas.Int.{ints, fits_signed_from_abs}
use Rattle.std.specs.Prelude.{unsigned_abs}
use Rattle.std.specs.Int.RustNames.{FitsSigned}
use mir.Syntax.{w128}
use Rattle.pt_core.specs.declared.limits.TheConstants.{LONGEST_SIDE, MOST_STEPS}
use Rattle.pt_core.proofs.Sizes.{back, long_back, product_most}

-- a number of 64 bits as a call is passed it
pub passed : (z : ℤ) (n : ℕ) → unsigned_abs z ≤ n → n < 2 ^ 63 → unsigned_abs (to_z w64 (of_z w64 z)) ≤ n
passed z n h k = rw (back z (omega arith)) h

pub side_back : (z : ℤ) → unsigned_abs z ≤ LONGEST_SIDE → to_z w64 (of_z w64 z) ≡ z
side_back z h = back z (omega arith)

pub square_back : (z : ℤ) → unsigned_abs z ≤ LONGEST_SIDE * LONGEST_SIDE → to_z w64 (of_z w64 z) ≡ z
square_back z h = back z (omega arith)

pub side_passed : (z : ℤ) → unsigned_abs z ≤ LONGEST_SIDE → unsigned_abs (to_z w64 (of_z w64 z)) ≤ LONGEST_SIDE
side_passed z h = passed z LONGEST_SIDE h (omega arith)

-- a sum of coordinates, and one of their products
pub sum_passed : (z : ℤ) → unsigned_abs z ≤ (MOST_STEPS + 1) * LONGEST_SIDE → unsigned_abs (to_z w64 (of_z w64 z)) ≤ (MOST_STEPS + 1) * LONGEST_SIDE
sum_passed z h = passed z ((MOST_STEPS + 1) * LONGEST_SIDE) h (omega arith)

pub products_passed : (z : ℤ) → unsigned_abs z ≤ (MOST_STEPS + 1) * LONGEST_SIDE * LONGEST_SIDE
    → unsigned_abs (to_z w64 (of_z w64 z)) ≤ (MOST_STEPS + 1) * LONGEST_SIDE * LONGEST_SIDE
products_passed z h = passed z ((MOST_STEPS + 1) * LONGEST_SIDE * LONGEST_SIDE) h (omega arith)

-- a sum of offsets
pub offsets_passed : (z : ℤ) → unsigned_abs z ≤ 2 * (MOST_STEPS + 1) * LONGEST_SIDE → unsigned_abs (to_z w64 (of_z w64 z)) ≤ 2 * (MOST_STEPS + 1) * LONGEST_SIDE
offsets_passed z h = passed z (2 * (MOST_STEPS + 1) * LONGEST_SIDE) h (omega arith)

pub square_passed : (z : ℤ) → unsigned_abs z ≤ LONGEST_SIDE * LONGEST_SIDE → unsigned_abs (to_z w64 (of_z w64 z)) ≤ LONGEST_SIDE * LONGEST_SIDE
square_passed z h = passed z (LONGEST_SIDE * LONGEST_SIDE) h (omega arith)

-- a product fits
pub product_fits : (a b : ℤ) (m n : ℕ) → unsigned_abs a ≤ m → unsigned_abs b ≤ n → m < 2 ^ 63 → n < 2 ^ 63 → m * n < 2 ^ 63
    → FitsSigned w64 (to_z w64 (of_z w64 a) *ℤ to_z w64 (of_z w64 b))
product_fits a b m n h k short_m short_n short =
    rw (back a (omega arith), back b (omega arith)) (fits_signed_from_abs w64 (a *ℤ b) (let most = product_most a b m n h k in omega arith))

pub difference_most : (a b : ℤ) (m n : ℕ) → unsigned_abs a ≤ m → unsigned_abs b ≤ n → unsigned_abs (a -ℤ b) ≤ m + n
difference_most a b m n h k = omega (arith, ints)

pub difference_fits : (a b : ℤ) → unsigned_abs a < 2 ^ 62 → unsigned_abs b < 2 ^ 62 → FitsSigned w64 (to_z w64 (of_z w64 a) -ℤ to_z w64 (of_z w64 b))
difference_fits a b h k =
    rw (back a (omega arith), back b (omega arith))
    (fits_signed_from_abs w64 (a -ℤ b) (let most = difference_most a b (2 ^ 62) (2 ^ 62 - 1) (omega arith) (omega arith) in omega arith))

-- the value of a difference
pub difference_back : (a b s : ℤ) → unsigned_abs a < 2 ^ 62 → unsigned_abs b < 2 ^ 62 → b ≡ s
    → to_z w64 (of_z w64 (to_z w64 (of_z w64 a) -ℤ to_z w64 (of_z w64 b))) ≡ a -ℤ s
difference_back a b s h k e =
    rw (back a (omega arith), back b (omega arith), back (a -ℤ b) (omega (arith, ints))) (ap (λ n. a -ℤ n) e)

-- so it is where one more number is taken away
pub differences_back : (a b c s t : ℤ) → unsigned_abs a < 2 ^ 61 → unsigned_abs b < 2 ^ 61 → unsigned_abs c < 2 ^ 61 → b ≡ s → c ≡ t
    → to_z w64 (of_z w64 (to_z w64 (of_z w64 (to_z w64 (of_z w64 a) -ℤ to_z w64 (of_z w64 b))) -ℤ to_z w64 (of_z w64 c))) ≡ (a -ℤ s) -ℤ t
differences_back a b c s t h k l e f =
    rw (
      difference_back a b s (omega arith) (omega arith) e,
      back c (omega arith),
      back ((a -ℤ s) -ℤ c) (let same : unsigned_abs b ≡ unsigned_abs s = ap unsigned_abs e in omega (arith, ints)),
    )
    (ap (λ n. (a -ℤ s) -ℤ n) f)

pub differences_fit : (a b c : ℤ) → unsigned_abs a < 2 ^ 61 → unsigned_abs b < 2 ^ 61 → unsigned_abs c < 2 ^ 61
    → FitsSigned w64 (to_z w64 (of_z w64 (to_z w64 (of_z w64 a) -ℤ to_z w64 (of_z w64 b))) -ℤ to_z w64 (of_z w64 c))
differences_fit a b c h k l =
    rw (difference_back a b b (omega arith) (omega arith) refl, back c (omega arith))
    (fits_signed_from_abs w64 ((a -ℤ b) -ℤ c) (omega (arith, ints)))

twice_most : (b : ℤ) (n : ℕ) → unsigned_abs b ≤ n → unsigned_abs (pos 2 *ℤ b) ≤ 2 * n
twice_most b n h = product_most (pos 2) b 2 n (omega arith) h

-- the value of what `spread` works out
pub spread_back : (a b c : ℤ) → unsigned_abs a ≤ 2 ^ 107 → unsigned_abs b ≤ 2 ^ 107 → unsigned_abs c ≤ 2 ^ 107
    → to_z w128 (of_z w128 (to_z w128 (of_z w128 (to_z w128 (of_z w128 a) -ℤ to_z w128 (of_z w128 (pos 2 *ℤ to_z w128 (of_z w128 b))))) +ℤ to_z w128 (of_z w128 c)))
    ≡ (a -ℤ pos 2 *ℤ b) +ℤ c
spread_back a b c h k l =
    let twice : unsigned_abs (pos 2 *ℤ b) ≤ 2 * 2 ^ 107 = twice_most b (2 ^ 107) k in
    rw (
      long_back a (omega arith),
      long_back b (omega arith),
      long_back c (omega arith),
      long_back (pos 2 *ℤ b) (omega arith),
      long_back (a -ℤ pos 2 *ℤ b) (omega (arith, ints)),
      long_back ((a -ℤ pos 2 *ℤ b) +ℤ c) (omega (arith, ints)),
    )
    refl

-- what a call that was passed two numbers of 64 bits says of their product
pub product_value : (r a b a' b' : ℤ) → to_z w64 (of_z w64 a) ≡ a' → to_z w64 (of_z w64 b) ≡ b' → r ≡ to_z w64 (of_z w64 a) *ℤ to_z w64 (of_z w64 b) → r ≡ a' *ℤ b'
product_value r a b a' b' e f g = cc

pub spread_fits_at_first : (a b : ℤ) → unsigned_abs a ≤ 2 ^ 107 → unsigned_abs b ≤ 2 ^ 107
    → FitsSigned w128 (to_z w128 (of_z w128 a) -ℤ to_z w128 (of_z w128 (pos 2 *ℤ to_z w128 (of_z w128 b))))
spread_fits_at_first a b h k =
    let twice : unsigned_abs (pos 2 *ℤ b) ≤ 2 * 2 ^ 107 = twice_most b (2 ^ 107) k in
    rw (long_back a (omega arith), long_back b (omega arith), long_back (pos 2 *ℤ b) (omega arith))
    (fits_signed_from_abs w128 (a -ℤ pos 2 *ℤ b) (omega (arith, ints)))

pub spread_fits : (a b c : ℤ) → unsigned_abs a ≤ 2 ^ 107 → unsigned_abs b ≤ 2 ^ 107 → unsigned_abs c ≤ 2 ^ 107
    → FitsSigned w128 (to_z w128 (of_z w128 (to_z w128 (of_z w128 a) -ℤ to_z w128 (of_z w128 (pos 2 *ℤ to_z w128 (of_z w128 b))))) +ℤ to_z w128 (of_z w128 c))
spread_fits a b c h k l =
    let twice : unsigned_abs (pos 2 *ℤ b) ≤ 2 * 2 ^ 107 = twice_most b (2 ^ 107) k in
    rw (
      long_back a (omega arith),
      long_back b (omega arith),
      long_back c (omega arith),
      long_back (pos 2 *ℤ b) (omega arith),
      long_back (a -ℤ pos 2 *ℤ b) (omega (arith, ints)),
    )
    (fits_signed_from_abs w128 ((a -ℤ pos 2 *ℤ b) +ℤ c) (omega (arith, ints)))

pub spread_value : (a b c q m p qq pq pp xx xy yy : ℤ) → unsigned_abs a ≤ 2 ^ 107 → unsigned_abs b ≤ 2 ^ 107 → unsigned_abs c ≤ 2 ^ 107
    → a ≡ q *ℤ xx → b ≡ m *ℤ xy → c ≡ p *ℤ yy → q ≡ qq → m ≡ pq → p ≡ pp
    → to_z w128 (of_z w128 (to_z w128 (of_z w128 (to_z w128 (of_z w128 a) -ℤ to_z w128 (of_z w128 (pos 2 *ℤ to_z w128 (of_z w128 b))))) +ℤ to_z w128 (of_z w128 c)))
    ≡ (qq *ℤ xx -ℤ pos 2 *ℤ (pq *ℤ xy)) +ℤ pp *ℤ yy
spread_value a b c q m p qq pq pp xx xy yy h k l ea eb ec eq em ep =
    rw (spread_back a b c h k l, ea, eb, ec, eq, em, ep) refl

pub spread_most : (a b c : ℤ) → unsigned_abs a ≤ 2 ^ 107 → unsigned_abs b ≤ 2 ^ 107 → unsigned_abs c ≤ 2 ^ 107
    → unsigned_abs (to_z w128 (of_z w128 (to_z w128 (of_z w128 (to_z w128 (of_z w128 a) -ℤ to_z w128 (of_z w128 (pos 2 *ℤ to_z w128 (of_z w128 b))))) +ℤ to_z w128 (of_z w128 c))))
    < 2 ^ 110
spread_most a b c h k l =
    let twice : unsigned_abs (pos 2 *ℤ b) ≤ 2 * 2 ^ 107 = twice_most b (2 ^ 107) k in
    rw (spread_back a b c h k l) (omega (arith, ints))

-- what a call of `moved` gives
pub moved_value : (r s f : ℤ) (n : ℕ) → unsigned_abs r ≤ 2 * (MOST_STEPS + 1) * LONGEST_SIDE → unsigned_abs s ≤ (MOST_STEPS + 1) * LONGEST_SIDE → unsigned_abs f ≤ LONGEST_SIDE
    → r ≡ to_z w64 (of_z w64 s) -ℤ pos n *ℤ to_z w64 (of_z w64 f) → to_z w64 (of_z w64 r) ≡ s -ℤ pos n *ℤ f
moved_value r s f n hr hs hf e =
    rw (back r (omega arith)) (rw (back s (omega arith), back f (omega arith)) at e)

-- what a call of `moved_products` gives
pub moved_products_value : (r p a o b f g : ℤ) → unsigned_abs p ≤ (MOST_STEPS + 1) * LONGEST_SIDE * LONGEST_SIDE → unsigned_abs a ≤ LONGEST_SIDE
    → unsigned_abs o ≤ (MOST_STEPS + 1) * LONGEST_SIDE → unsigned_abs b ≤ LONGEST_SIDE
    → unsigned_abs f ≤ 2 * (MOST_STEPS + 1) * LONGEST_SIDE → to_z w64 (of_z w64 f) ≡ g
    → r ≡ (to_z w64 (of_z w64 p) -ℤ to_z w64 (of_z w64 a) *ℤ to_z w64 (of_z w64 o)) -ℤ to_z w64 (of_z w64 b) *ℤ to_z w64 (of_z w64 f)
    → to_z w64 (of_z w64 r) ≡ (p -ℤ a *ℤ o) -ℤ b *ℤ g
moved_products_value r p a o b f g hp ha ho hb hf eg e =
    let ao = product_most a o LONGEST_SIDE ((MOST_STEPS + 1) * LONGEST_SIDE) ha ho in
    let bf = product_most b f LONGEST_SIDE (2 * (MOST_STEPS + 1) * LONGEST_SIDE) hb hf in
    let is_f : f ≡ g = sym (back f (omega arith)) ∙ eg in
    let is_r : r ≡ (p -ℤ a *ℤ o) -ℤ b *ℤ f =
    e ∙ rw (back p (omega arith), back a (omega arith), back o (omega arith), back b (omega arith), back f (omega arith)) refl in
    rw (back r (omega (arith, ints))) (is_r ∙ ap (λ v. (p -ℤ a *ℤ o) -ℤ b *ℤ v) is_f)

-- a coordinate in 64 bits
pub coordinate_is : (z r : ℤ) → pos 0 ≤ℤ z → z ≤ℤ pos LONGEST_SIDE → r ≡ to_z w32 (of_z w32 z) → to_z w64 (of_z w64 r) ≡ z
coordinate_is z r low high e = omega (arith, ints)
