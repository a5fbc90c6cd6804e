-- A segment with one point more.
use Rattle.std.proofs.Common.{◌≡◌, ℕ, suc, ◌+◌, ◌-◌, ◌*◌, ◌<◌, ◌≤◌, ◌^◌, w64, to_z, of_z, ℤ, ◌+ℤ◌, ◌*ℤ◌, List, sym, ap, ◌∙◌, arith}
use Rattle.std.proofs.lemmas.Int.{ints, int_wrap_fits, fits_signed_from_abs}
use Rattle.std.specs.Int.{int_wrap}
use Rattle.std.specs.Prelude.{unsigned_abs}
use Rattle.pt_core.specs.declared.point.Point.{Point}
use Rattle.pt_core.specs.declared.limits.TheConstants.{LONGEST_SIDE, MOST_STEPS}
use Rattle.pt_core.specs.OnPage.{AreOnPage}
use Rattle.pt_core.proofs.Sizes.{back, product_most}
use Rattle.prefix_moments.specs.Sums.{sum_of, sum_over, sums_of, rightward_of, above_of, spread_of}
use Rattle.prefix_moments.specs.Inner.Table.{spread_by}
use Rattle.prefix_moments.proofs.Rows.{spread_of_is}
use Rattle.prefix_moments.proofs.Summing.{sum_most}

-- its sums have one term more
pub one_more : (f : ℕ → ℤ) (i j : ℕ) → i < j → sum_over i (j + 1) f ≡ sum_over i j f +ℤ f (j + 1)
one_more f i j onwards =
    let count : j + 1 - i + 1 ≡ suc (j - i + 1) = omega arith in
    let last : i + (j - i + 1) ≡ j + 1 = omega arith in
    ap (sum_of (λ d. f (i + d))) count ∙ ap (λ k. sum_of (λ d. f (i + d)) (j - i + 1) +ℤ f k) last

-- two points of a page are no farther apart than its longest side
pub right_most : (points : List Point) → AreOnPage points → (i k : ℕ) → unsigned_abs (rightward_of points i k) ≤ LONGEST_SIDE
right_most points on_page i k = let p = on_page k in let q = on_page i in omega (arith, ints)

pub above_most : (points : List Point) → AreOnPage points → (i k : ℕ) → unsigned_abs (above_of points i k) ≤ LONGEST_SIDE
above_most points on_page i k = let p = on_page k in let q = on_page i in omega (arith, ints)

-- so the sums of the offsets' products are small
pub products_most : (f g : ℕ → ℤ) → ((k : ℕ) → unsigned_abs (f k) ≤ LONGEST_SIDE) → ((k : ℕ) → unsigned_abs (g k) ≤ LONGEST_SIDE)
    → (i j : ℕ) → j - i ≤ MOST_STEPS → unsigned_abs (sum_over i j (λ k. f k *ℤ g k)) < 2 ^ 62
products_most f g p q i j short =
    let most = sum_most (λ d. f (i + d) *ℤ g (i + d)) (LONGEST_SIDE * LONGEST_SIDE) (j - i + 1)
    (λ d. product_most (f (i + d)) (g (i + d)) LONGEST_SIDE LONGEST_SIDE (p (i + d)) (q (i + d))) in
    omega (arith, most)

pub xx_most : (points : List Point) → AreOnPage points → (i j : ℕ) → j - i ≤ MOST_STEPS → unsigned_abs ((sums_of points i j).xx) < 2 ^ 62
xx_most points on_page i j short = products_most (rightward_of points i) (rightward_of points i) (right_most points on_page i) (right_most points on_page i) i j short

pub xy_most : (points : List Point) → AreOnPage points → (i j : ℕ) → j - i ≤ MOST_STEPS → unsigned_abs ((sums_of points i j).xy) < 2 ^ 62
xy_most points on_page i j short = products_most (rightward_of points i) (above_of points i) (right_most points on_page i) (above_most points on_page i) i j short

pub yy_most : (points : List Point) → AreOnPage points → (i j : ℕ) → j - i ≤ MOST_STEPS → unsigned_abs ((sums_of points i j).yy) < 2 ^ 62
yy_most points on_page i j short = products_most (above_of points i) (above_of points i) (above_most points on_page i) (above_most points on_page i) i j short

-- a segment's sums come back from their bits
pub sum_back : (z s : ℤ) → z ≡ s → unsigned_abs s < 2 ^ 62 → to_z w64 (of_z w64 z) ≡ s
sum_back z s is most = (let here : unsigned_abs z ≡ unsigned_abs s = ap unsigned_abs is in back z (omega arith)) ∙ is

-- and so does how far its last point lies from the first one
pub offset_back : (z s : ℤ) → z ≡ s → unsigned_abs s ≤ LONGEST_SIDE → to_z w64 (of_z w64 z) ≡ s
offset_back z s is most = sum_back z s is (omega arith)

-- a sum with the product of one more point's offsets is that of the longer segment
pub grown_is : (f g : ℕ → ℤ) (i j : ℕ) (s a b p : ℤ) → i < j → to_z w64 (of_z w64 s) ≡ sum_over i j (λ k. f k *ℤ g k)
    → a ≡ f (j + 1) → b ≡ g (j + 1) → p ≡ a *ℤ b → unsigned_abs p ≤ LONGEST_SIDE * LONGEST_SIDE
    → to_z w64 (of_z w64 s) +ℤ to_z w64 (of_z w64 p) ≡ sum_over i (j + 1) (λ k. f k *ℤ g k)
grown_is f g i j s a b p onwards es ea eb ep most =
    rw (es, back p (omega arith), ep, ea, eb) (sym (one_more (λ k. f k *ℤ g k) i j onwards))

-- the sum of the squared cross products by the sums of a segment
pub grown_spread : (points : List Point) (i j : ℕ) (xx xy yy right above : ℤ)
    → xx ≡ (sums_of points i j).xx → xy ≡ (sums_of points i j).xy → yy ≡ (sums_of points i j).yy
    → right ≡ rightward_of points i j → above ≡ above_of points i j → spread_by xx xy yy right above ≡ spread_of points i j
grown_spread points i j xx xy yy right above exx exy eyy er ea = rw (exx, exy, eyy, er, ea) (spread_of_is points i j)

-- a small number is what is left of it in 64 bits
pub wrapped_back : (s t : ℤ) → unsigned_abs s < 2 ^ 48 → t ≡ int_wrap w64 s → t ≡ s
wrapped_back s t small et = et ∙ int_wrap_fits w64 s (fits_signed_from_abs w64 s (omega arith))
