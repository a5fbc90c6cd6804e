-- The sums over a half.
use Rattle.std.proofs.Common.{◌≡◌, ℕ, ◌+◌, ◌-◌, ◌*◌, ◌≤◌, ℤ, pos, ◌-ℤ◌, ◌*ℤ◌, ◌≤ℤ◌, List, refl, sym, ap, ◌∙◌, subst, arith}
use Rattle.std.proofs.lemmas.Int.{ints}
use Rattle.std.specs.Prelude.{unsigned_abs}
use Rattle.pt_core.specs.ClosedWalk.{point_at}
use Rattle.pt_core.specs.OnPage.{AreOnPage}
use Rattle.pt_core.specs.declared.limits.TheConstants.{LONGEST_SIDE, MOST_STEPS}
use Rattle.pt_core.specs.declared.point.Point.{Point}
use Rattle.pt_core.proofs.Sizes.{product_most}
use Rattle.prefix_moments.specs.Sums.{sum_over, sums_of, rightward_of, above_of}
use Rattle.prefix_moments.specs.Inner.Table.{spread_by}
use Rattle.prefix_moments.proofs.Longer.{right_most, above_most}
use Rattle.prefix_moments.proofs.Prefixes.{sum_same}
use Rattle.prefix_moments.proofs.Rows.{products_by}
use Rattle.prefix_moments.proofs.Summing.{spread_is, squares_at_least, sum_most}
use Rattle.half_penalties.specs.declared.products.Products.{Products}
use Rattle.half_penalties.specs.Inner.HalfPenalties.{IsHalfBound, cross_from, crosses_of}
use Rattle.half_penalties.specs.Inner.Products.{moved_of, products_about, AreHalfSums, IsBoundBy}
use Rattle.half_penalties.proofs.Naturals.{natural, square_is}
use Rattle.half_penalties.specs.Inner.HalfPenalties.{along_of}

-- sums are the same where each is
pub products_same : (p q : Products) → p.xx ≡ q.xx → p.xy ≡ q.xy → p.yy ≡ q.yy → p ≡ q
products_same p q xx xy yy =
    let sums : ℤ → ℤ → ℤ → Products = λ a b c. record { xx = a; xy = b; yy = c } in
    ap (λ v. sums v p.xy p.yy) xx ∙ ap (λ v. sums q.xx v p.yy) xy ∙ ap (λ v. sums q.xx q.xy v) yy

module _ (points : List Point) (o lo hi : ℕ) where
  -- the squared cross products, by the sums
  pub crosses_are : (right above : ℤ)
      → crosses_of points o lo hi right above
      ≡ spread_by ((products_about points o lo hi).xx) ((products_about points o lo hi).xy) ((products_about points o lo hi).yy) right above
  crosses_are right above = spread_is (λ d. rightward_of points o (lo + d)) (λ d. above_of points o (lo + d)) right above (hi - lo + 1)

  crosses_at_least : (right above : ℤ) → pos 0 ≤ℤ crosses_of points o lo hi right above
  crosses_at_least right above = squares_at_least (λ d. cross_from points o (lo + d) right above) (hi - lo + 1)

  pub squares_are : (right above : ℤ)
      → pos 0 ≤ℤ spread_by ((products_about points o lo hi).xx) ((products_about points o lo hi).xy) ((products_about points o lo hi).yy) right above
  squares_are right above = subst (λ z. pos 0 ≤ℤ z) (crosses_are right above) (crosses_at_least right above)

  -- a bound by the sums is one of the half
  pub half_bound : (slant : ℤ) (weight bound : ℕ) → IsBoundBy (products_about points o lo hi) slant weight bound → IsHalfBound points slant o lo hi weight bound
  half_bound slant weight bound is = λ right above.
      let P : ℤ → Type 0 = λ z. (pos (bound * bound) *ℤ (along_of slant right above *ℤ along_of slant right above)) ≤ℤ (pos (65536 * weight) *ℤ z) in
      subst P (sym (crosses_are right above)) (is right above)

  -- and so is zero
  pub zero_half : (slant : ℤ) (weight : ℕ) → IsHalfBound points slant o lo hi weight 0
  zero_half slant weight = λ right above.
      let along : ℤ = along_of slant right above in
      rw (square_is along, natural (crosses_of points o lo hi right above) (crosses_at_least right above)) (omega (arith, ints))

  products_most : (f g : ℕ → ℤ) → ((k : ℕ) → unsigned_abs (f k) ≤ LONGEST_SIDE) → ((k : ℕ) → unsigned_abs (g k) ≤ LONGEST_SIDE) → hi - lo ≤ MOST_STEPS
      → unsigned_abs (sum_over lo hi (λ k. f k *ℤ g k)) ≤ (MOST_STEPS + 1) * (LONGEST_SIDE * LONGEST_SIDE)
  products_most f g p q short =
      let most = sum_most (λ d. f (lo + d) *ℤ g (lo + d)) (LONGEST_SIDE * LONGEST_SIDE) (hi - lo + 1)
      (λ d. product_most (f (lo + d)) (g (lo + d)) LONGEST_SIDE LONGEST_SIDE (p (lo + d)) (q (lo + d))) in
      omega (arith, most)

  -- they are as small as those of a segment
  pub are_sums : AreOnPage points → hi - lo ≤ MOST_STEPS → AreHalfSums (products_about points o lo hi)
  are_sums on_page short =
      let x = right_most points on_page o in
      let y = above_most points on_page o in
      record {
        xx = products_most (rightward_of points o) (rightward_of points o) x x short;
        xy = products_most (rightward_of points o) (above_of points o) x y short;
        yy = products_most (above_of points o) (above_of points o) y y short;
        squares = squares_are;
      }

-- offsets from the first point of a segment less that of the last one are those from the last one
shifted_products : (f g : ℕ → ℤ) (i j : ℕ)
    → (sum_over i j (λ k. (f k -ℤ f i) *ℤ (g k -ℤ g i)) -ℤ (f j -ℤ f i) *ℤ sum_over i j (λ k. g k -ℤ g i))
    -ℤ (g j -ℤ g i) *ℤ (sum_over i j (λ k. f k -ℤ f i) -ℤ pos (j - i + 1) *ℤ (f j -ℤ f i))
    ≡ sum_over i j (λ k. (f k -ℤ f j) *ℤ (g k -ℤ g j))
shifted_products f g i j =
    let less : (f : ℕ → ℤ) (d : ℕ) → (f (i + d) -ℤ f i) -ℤ (f j -ℤ f i) ≡ f (i + d) -ℤ f j = λ f d. omega (arith, ints) in
    products_by (λ d. f (i + d) -ℤ f i) (λ d. g (i + d) -ℤ g i) (f j -ℤ f i) (g j -ℤ g i) (j - i + 1)
    ∙ sum_same _ (λ d. (f (i + d) -ℤ f j) *ℤ (g (i + d) -ℤ g j)) (j - i + 1) (λ d. rw (less f d, less g d) refl)

-- so a segment's sums are taken to its last point
pub moved_is : (points : List Point) (i j : ℕ) → moved_of (sums_of points i j) (rightward_of points i j) (above_of points i j) ≡ products_about points j i j
moved_is points i j =
    let x : ℕ → ℤ = λ k. (point_at points k).x in
    let y : ℕ → ℤ = λ k. (point_at points k).y in
    products_same _ _ (shifted_products x x i j) (shifted_products x y i j) (shifted_products y y i j)
