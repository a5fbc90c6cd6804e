-- A segment from one point earlier.
use Rattle.std.proofs.Common.{◌≡◌, ℕ, ◌+◌, ◌-◌, ◌<◌, ◌≤◌, ℤ, pos, ◌-ℤ◌, ◌*ℤ◌, List, refl, sym, ap, ◌∙◌, subst, arith}
use Rattle.std.proofs.Math.IntN.{zero-*ℤ}
use Rattle.std.proofs.lemmas.Int.{ints}
use Rattle.pt_core.specs.declared.point.Point.{Point}
use Rattle.pt_core.specs.ClosedWalk.{point_at}
use Rattle.pt_core.specs.declared.limits.TheConstants.{MOST_STEPS}
use Rattle.pt_core.specs.OnPage.{AreOnPage}
use Rattle.prefix_moments.specs.Sums.{sum_of, sum_over, sums_of, rightward_of, above_of}
use Rattle.prefix_moments.specs.Inner.Table.{IsRawOf, with_first_of, without_count}
use Rattle.prefix_moments.proofs.Longer.{right_most, above_most}
use Rattle.prefix_moments.proofs.Prefixes.{sum_same}
use Rattle.prefix_moments.proofs.Rows.{products_by, raw_more, raw_small, sums_same}
use Rattle.prefix_moments.proofs.Summing.{shifted, split}

-- the sums of a segment's offsets are small
pub offsets_most : (points : List Point) → AreOnPage points → (i j : ℕ) → j - i ≤ MOST_STEPS → IsRawOf (MOST_STEPS + 1) (without_count (sums_of points i j))
offsets_most points on_page i j short =
    let offset : ℕ → Point = λ d. record { x = rightward_of points i (i + d); y = above_of points i (i + d) } in
    raw_more _ (j - i + 1) (MOST_STEPS + 1) (omega arith)
    (raw_small offset (j - i + 1) (λ d. right_most points on_page i (i + d)) (λ d. above_most points on_page i (i + d)))

-- nothing is added by a first term that is none
none_first : (h : ℕ → ℤ) (i j : ℕ) → i < j → h i ≡ pos 0 → sum_over i j h ≡ sum_over (i + 1) j h
none_first h i j onwards none =
    let n : ℕ = j - (i + 1) + 1 in
    let count : j - i + 1 ≡ 1 + n = omega arith in
    let here : h (i + 0) ≡ pos 0 = ap h (omega arith) ∙ none in
    let rest = sum_same (λ d. h (i + (1 + d))) (λ d. h (i + 1 + d)) n (λ d. ap h (omega arith)) in
    ap (sum_of (λ d. h (i + d))) count ∙ split (λ d. h (i + d)) 1 n ∙ omega (arith, ints, here, rest)

-- offsets of points from one of them, as those from the one before it
module _ (f g : ℕ → ℤ) (i j : ℕ) (onwards : i < j) where
  offset_is : (f : ℕ → ℤ) (d : ℕ) → (f (i + 1 + d) -ℤ f (i + 1)) -ℤ (f i -ℤ f (i + 1)) ≡ f (i + 1 + d) -ℤ f i
  offset_is f d = omega (arith, ints)

  offsets_earlier : sum_over (i + 1) j (λ k. f k -ℤ f (i + 1)) -ℤ pos (j - (i + 1) + 1) *ℤ (f i -ℤ f (i + 1)) ≡ sum_over i j (λ k. f k -ℤ f i)
  offsets_earlier =
      sym (shifted (λ d. f (i + 1 + d) -ℤ f (i + 1)) (f i -ℤ f (i + 1)) (j - (i + 1) + 1))
      ∙ sum_same _ (λ d. f (i + 1 + d) -ℤ f i) (j - (i + 1) + 1) (offset_is f)
      ∙ sym (none_first (λ k. f k -ℤ f i) i j onwards (omega (arith, ints)))

  products_earlier : (sum_over (i + 1) j (λ k. (f k -ℤ f (i + 1)) *ℤ (g k -ℤ g (i + 1))) -ℤ (f i -ℤ f (i + 1)) *ℤ sum_over (i + 1) j (λ k. g k -ℤ g (i + 1)))
      -ℤ (g i -ℤ g (i + 1)) *ℤ (sum_over (i + 1) j (λ k. f k -ℤ f (i + 1)) -ℤ pos (j - (i + 1) + 1) *ℤ (f i -ℤ f (i + 1)))
      ≡ sum_over i j (λ k. (f k -ℤ f i) *ℤ (g k -ℤ g i))
  products_earlier =
      let none : f i -ℤ f i ≡ pos 0 = omega (arith, ints) in
      products_by (λ d. f (i + 1 + d) -ℤ f (i + 1)) (λ d. g (i + 1 + d) -ℤ g (i + 1)) (f i -ℤ f (i + 1)) (g i -ℤ g (i + 1)) (j - (i + 1) + 1)
      ∙ sum_same _ (λ d. (f (i + 1 + d) -ℤ f i) *ℤ (g (i + 1 + d) -ℤ g i)) (j - (i + 1) + 1) (λ d. rw (offset_is f d, offset_is g d) refl)
      ∙ sym (none_first (λ k. (f k -ℤ f i) *ℤ (g k -ℤ g i)) i j onwards (ap (λ z. z *ℤ (g i -ℤ g i)) none ∙ zero-*ℤ (g i -ℤ g i)))

-- the sums of a segment with one point before its first one
pub earlier_is : (points : List Point) (i k j : ℕ) → k ≡ i + 1 → k < j
    → with_first_of (sums_of points k j) (rightward_of points k i) (above_of points k i) ≡ sums_of points i j
earlier_is points i k j next onwards =
    let x : ℕ → ℤ = λ k. (point_at points k).x in
    let y : ℕ → ℤ = λ k. (point_at points k).y in
    let inside : i < j = omega arith in
    let P : ℕ → Type 0 = λ k. with_first_of (sums_of points k j) (rightward_of points k i) (above_of points k i) ≡ sums_of points i j in
    subst P (sym next)
    (sums_same _ _ (omega arith) (offsets_earlier x x i j inside) (offsets_earlier y y i j inside)
    (products_earlier x x i j inside) (products_earlier x y i j inside) (products_earlier y y i j inside))
