-- The sums over the points of a segment.
use Rattle.std.proofs.Common.{◌≡◌, ℕ, ◌+◌, ◌-◌, ◌*◌, ◌<◌, ◌≤◌, ℤ, pos, ◌-ℤ◌, ◌*ℤ◌, ◌≤ℤ◌, List, length, refl, sym, ap, ◌∙◌, subst, arith}
use Rattle.std.proofs.lemmas.Int.{ints}
use Rattle.std.proofs.Math.Nat.{mod-eq_of_lt}
use Rattle.std.specs.Prelude.{unsigned_abs, slice_index_or}
use Rattle.pt_core.specs.declared.point.Point.{Point}
use Rattle.pt_core.specs.ClosedWalk.{origin, point_at}
use Rattle.pt_core.specs.declared.limits.TheConstants.{LONGEST_SIDE, MOST_STEPS}
use Rattle.prefix_moments.specs.declared.raw.RawSums.{RawSums}
use Rattle.prefix_moments.specs.declared.sums.Sums.{Sums}
use Rattle.pt_core.specs.OnPage.{IsOnPage, AreOnPage}
use Rattle.prefix_moments.specs.Sums.{sum_of, sums_of, rightward_of, above_of, spread_of}
use Rattle.prefix_moments.specs.Inner.Table.{raw_of, IsRawOf, offsets_of, spread_by}
use Rattle.pt_core.proofs.Sizes.{product_most}
use Rattle.prefix_moments.proofs.Summing.{sum_most, shifted, products_shifted, spread_is, squares_at_least}

abbrev raw : ℤ → ℤ → ℤ → ℤ → ℤ → RawSums
raw x y xx xy yy = record { x = x; y = y; xx = xx; xy = xy; yy = yy }

abbrev sums : ℕ → ℤ → ℤ → ℤ → ℤ → ℤ → Sums
sums count x y xx xy yy = record { count = count; x = x; y = y; xx = xx; xy = xy; yy = yy }

-- lists of sums are the same where their sums are
pub raw_same : (r s : RawSums) → r.x ≡ s.x → r.y ≡ s.y → r.xx ≡ s.xx → r.xy ≡ s.xy → r.yy ≡ s.yy → r ≡ s
raw_same r s x y xx xy yy =
    ap (λ v. raw v r.y r.xx r.xy r.yy) x ∙ ap (λ v. raw s.x v r.xx r.xy r.yy) y ∙ ap (λ v. raw s.x s.y v r.xy r.yy) xx
    ∙ ap (λ v. raw s.x s.y s.xx v r.yy) xy ∙ ap (λ v. raw s.x s.y s.xx s.xy v) yy

-- the sums of some points are small that lie no farther from (0, 0) than a page's corner
pub raw_small : (at : ℕ → Point) (count : ℕ) → ((k : ℕ) → unsigned_abs ((at k).x) ≤ LONGEST_SIDE) → ((k : ℕ) → unsigned_abs ((at k).y) ≤ LONGEST_SIDE)
    → IsRawOf count (raw_of at count)
raw_small at count x y = record {
  x = sum_most (λ k. (at k).x) LONGEST_SIDE count x;
  y = sum_most (λ k. (at k).y) LONGEST_SIDE count y;
  xx = sum_most (λ k. (at k).x *ℤ (at k).x) (LONGEST_SIDE * LONGEST_SIDE) count (λ k. product_most ((at k).x) ((at k).x) LONGEST_SIDE LONGEST_SIDE (x k) (x k));
  xy = sum_most (λ k. (at k).x *ℤ (at k).y) (LONGEST_SIDE * LONGEST_SIDE) count (λ k. product_most ((at k).x) ((at k).y) LONGEST_SIDE LONGEST_SIDE (x k) (y k));
  yy = sum_most (λ k. (at k).y *ℤ (at k).y) (LONGEST_SIDE * LONGEST_SIDE) count (λ k. product_most ((at k).y) ((at k).y) LONGEST_SIDE LONGEST_SIDE (y k) (y k));
}

-- so are those of points on a page
pub raw_most : (at : ℕ → Point) (count : ℕ) → ((k : ℕ) → IsOnPage (at k)) → IsRawOf count (raw_of at count)
raw_most at count on_page =
    raw_small at count (λ k. (let p = on_page k in omega (arith, ints))) (λ k. (let p = on_page k in omega (arith, ints)))

-- so are those of fewer points
pub raw_more : (r : RawSums) (count most : ℕ) → count ≤ most → IsRawOf count r → IsRawOf most r
raw_more r count most h small = record { x = omega arith; y = omega arith; xx = omega arith; xy = omega arith; yy = omega arith }

pub sums_same : (r s : Sums) → r.count ≡ s.count → r.x ≡ s.x → r.y ≡ s.y → r.xx ≡ s.xx → r.xy ≡ s.xy → r.yy ≡ s.yy → r ≡ s
sums_same r s count x y xx xy yy =
    ap (λ v. sums v r.x r.y r.xx r.xy r.yy) count ∙ ap (λ v. sums s.count v r.y r.xx r.xy r.yy) x ∙ ap (λ v. sums s.count s.x v r.xx r.xy r.yy) y
    ∙ ap (λ v. sums s.count s.x s.y v r.xy r.yy) xx ∙ ap (λ v. sums s.count s.x s.y s.xx v r.yy) xy ∙ ap (λ v. sums s.count s.x s.y s.xx s.xy v) yy

-- the sums of products of offsets from two numbers, as they are worked out
pub products_by : (f g : ℕ → ℤ) (a b : ℤ) (count : ℕ)
    → (sum_of (λ d. f d *ℤ g d) count -ℤ a *ℤ sum_of g count) -ℤ b *ℤ (sum_of f count -ℤ pos count *ℤ a)
    ≡ sum_of (λ d. (f d -ℤ a) *ℤ (g d -ℤ b)) count
products_by f g a b count =
    rw (← shifted f a count) (sym (products_shifted f g a b count))

-- the sums of the offsets of a segment's points
pub offsets_are : (points : List Point) (i j : ℕ)
    → offsets_of (raw_of (λ d. point_at points (i + d)) (j - i + 1)) (j - i + 1) ((point_at points i).x) ((point_at points i).y) ≡ sums_of points i j
offsets_are points i j =
    let x : ℕ → ℤ = λ d. (point_at points (i + d)).x in
    let y : ℕ → ℤ = λ d. (point_at points (i + d)).y in
    let a : ℤ = (point_at points i).x in
    let b : ℤ = (point_at points i).y in
    sums_same _ _ refl
    (sym (shifted x a (j - i + 1)))
    (sym (shifted y b (j - i + 1)))
    (products_by x x a a (j - i + 1))
    (products_by x y a b (j - i + 1))
    (products_by y y b b (j - i + 1))

-- the sum of the squared cross products, by the sums of the offsets
pub spread_of_is : (points : List Point) (i j : ℕ)
    → spread_by ((sums_of points i j).xx) ((sums_of points i j).xy) ((sums_of points i j).yy) (rightward_of points i j) (above_of points i j) ≡ spread_of points i j
spread_of_is points i j =
    sym (spread_is (λ d. rightward_of points i (i + d)) (λ d. above_of points i (i + d)) (rightward_of points i j) (above_of points i j) (j - i + 1))

pub spread_at_least : (points : List Point) (i j : ℕ) → pos 0 ≤ℤ spread_of points i j
spread_at_least points i j =
    squares_at_least (λ d. rightward_of points i (i + d) *ℤ above_of points i j -ℤ above_of points i (i + d) *ℤ rightward_of points i j) (j - i + 1)

-- sums that were worked out from a segment's own
pub sums_by : (points : List Point) (i j : ℕ) (r : RawSums) (x y : ℤ) (s : Sums)
    → r ≡ raw_of (λ d. point_at points (i + d)) (j - i + 1) → x ≡ (point_at points i).x → y ≡ (point_at points i).y
    → s ≡ offsets_of r (j - i + 1) x y → s ≡ sums_of points i j
sums_by points i j r x y s er ex ey es = es ∙ rw (er, ex, ey) (offsets_are points i j)

pub segment_most : (points : List Point) → AreOnPage points → (i count : ℕ) (m : RawSums) → count ≤ MOST_STEPS + 1
    → m ≡ raw_of (λ d. point_at points (i + d)) count → IsRawOf (MOST_STEPS + 1) m
segment_most points on_page i count m h e =
    let P : RawSums → Type 0 = λ v. IsRawOf (MOST_STEPS + 1) v in
    subst P (sym e) (raw_more _ count (MOST_STEPS + 1) h (raw_most (λ d. point_at points (i + d)) count (λ k. on_page (i + k))))

-- the total that `spread` gives
pub total_is : (points : List Point) (i j : ℕ) (s : Sums) (right above t : ℤ) → s ≡ sums_of points i j → right ≡ rightward_of points i j → above ≡ above_of points i j
    → t ≡ spread_by s.xx s.xy s.yy right above → t ≡ spread_of points i j
total_is points i j s right above t es er ea et =
    et ∙ rw (er, ea) (ap (λ v. spread_by v.xx v.xy v.yy (rightward_of points i j) (above_of points i j)) es) ∙ spread_of_is points i j

-- a point of the first lap stands in the list
pub listed : (list points : List Point) (k : ℕ) → list ≡ points → k < length points → slice_index_or list k origin ≡ point_at points k
listed list points k same below = ap (λ l. slice_index_or l k origin) same ∙ ap (λ n. slice_index_or points n origin) (sym (mod-eq_of_lt below))

-- and is on the page
pub listed_on_page : (list points : List Point) (k : ℕ) → list ≡ points → k < length points → AreOnPage points → IsOnPage (slice_index_or list k origin)
listed_on_page list points k same below on_page = subst IsOnPage (sym (listed list points k same below)) (on_page k)
