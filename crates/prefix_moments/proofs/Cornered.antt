-- The sum of a segment's squared cross products, by the sums of its points' coordinates as they stand.
use Rattle.std.proofs.Common.{◌≡◌, ℕ, zero, suc, ◌+◌, ◌-◌, ◌<◌, ◌^◌, w64, ℤ, pos, ◌+ℤ◌, ◌-ℤ◌, ◌*ℤ◌, List, sym, ap, ◌∙◌, arith}
use Rattle.std.proofs.Math.IntN.{*ℤ-zero, zero-*ℤ}
use Rattle.std.proofs.lemmas.Int.{ints, int_wrap_fits, fits_signed_from_abs}
use Rattle.std.specs.Int.{int_wrap}
use Rattle.std.specs.Prelude.{unsigned_abs}
use Rattle.pt_core.specs.declared.point.Point.{Point}
use Rattle.pt_core.specs.ClosedWalk.{point_at}
use Rattle.pt_core.proofs.Terms.{num, plus, less, times, same_value}
use Rattle.prefix_moments.specs.Sums.{sum_of, spread_of, chord_cross_of, rightward_of, above_of}
use Rattle.prefix_moments.specs.declared.raw.RawSums.{RawSums}
use Rattle.prefix_moments.specs.Inner.Table.{raw_of, spread_from}
use Rattle.prefix_moments.proofs.Prefixes.{sum_same}

-- one more point
step_from : (xx xy yy x y n u v p q k : ℤ)
    → (((q *ℤ (q *ℤ xx -ℤ (p *ℤ xy) *ℤ pos 2)) +ℤ (p *ℤ p) *ℤ yy) +ℤ k *ℤ (n *ℤ k -ℤ (q *ℤ x -ℤ p *ℤ y) *ℤ pos 2))
    +ℤ ((u *ℤ q -ℤ v *ℤ p) -ℤ k) *ℤ ((u *ℤ q -ℤ v *ℤ p) -ℤ k)
    ≡ ((q *ℤ (q *ℤ (xx +ℤ u *ℤ u) -ℤ (p *ℤ (xy +ℤ u *ℤ v)) *ℤ pos 2)) +ℤ (p *ℤ p) *ℤ (yy +ℤ v *ℤ v))
    +ℤ k *ℤ ((n +ℤ pos 1) *ℤ k -ℤ (q *ℤ (x +ℤ u) -ℤ p *ℤ (y +ℤ v)) *ℤ pos 2)
step_from xx xy yy x y n u v p q k =
    let by = λ (a : ℤ) (b : ℤ). times (num a) (num b) in
    let cross = less (less (by u q) (by v p)) (num k) in
    same_value
    (plus
    (plus
    (plus (times (num q) (less (by q xx) (times (by p xy) (num (pos 2))))) (times (by p p) (num yy)))
    (times (num k) (less (by n k) (times (less (by q x) (by p y)) (num (pos 2))))))
    (times cross cross))
    (plus
    (plus
    (times (num q) (less (times (num q) (plus (num xx) (by u u))) (times (times (num p) (plus (num xy) (by u v))) (num (pos 2)))))
    (times (by p p) (plus (num yy) (by v v))))
    (times (num k)
    (less (times (plus (num n) (num (pos 1))) (num k)) (times (less (times (num q) (plus (num x) (num u))) (times (num p) (plus (num y) (num v)))) (num (pos 2))))))
    (omega arith)

-- all of them
sum_from : (at : ℕ → Point) (p q k : ℤ) (count : ℕ)
    → sum_of (λ d. (((at d).x *ℤ q -ℤ (at d).y *ℤ p) -ℤ k) *ℤ (((at d).x *ℤ q -ℤ (at d).y *ℤ p) -ℤ k)) count
    ≡ spread_from (raw_of at count) (pos count) p q k
sum_from at p q k zero = simp (*ℤ-zero, zero-*ℤ)
sum_from at p q k (suc count) =
    let n : pos (suc count) ≡ pos count +ℤ pos 1 = omega (arith, ints) in
    let r = raw_of at count in
    rw (sum_from at p q k count, n)
    (step_from r.xx r.xy r.yy r.x r.y (pos count) ((at count).x) ((at count).y) p q k)

-- the cross product of two offsets from a point, by coordinates
cross_from : (x y a b p q : ℤ) → (x -ℤ a) *ℤ q -ℤ (y -ℤ b) *ℤ p ≡ (x *ℤ q -ℤ y *ℤ p) -ℤ (a *ℤ q -ℤ b *ℤ p)
cross_from x y a b p q =
    let by = λ (a : ℤ) (b : ℤ). times (num a) (num b) in
    same_value
    (less (times (less (num x) (num a)) (num q)) (times (less (num y) (num b)) (num p)))
    (less (less (by x q) (by y p)) (less (by a q) (by b p)))
    (omega arith)

-- those of a segment
pub spread_from_is : (points : List Point) (i j : ℕ)
    → spread_from (raw_of (λ d. point_at points (i + d)) (j - i + 1)) (pos (j - i + 1)) (rightward_of points i j) (above_of points i j)
    ((point_at points i).x *ℤ above_of points i j -ℤ (point_at points i).y *ℤ rightward_of points i j)
    ≡ spread_of points i j
spread_from_is points i j =
    let p = rightward_of points i j in
    let q = above_of points i j in
    let from : Point = point_at points i in
    let k : ℤ = from.x *ℤ q -ℤ from.y *ℤ p in
    let one : ℕ → ℤ = λ d. ((point_at points (i + d)).x *ℤ q -ℤ (point_at points (i + d)).y *ℤ p) -ℤ k in
    let same : (d : ℕ) → one d *ℤ one d ≡ chord_cross_of points i j (i + d) *ℤ chord_cross_of points i j (i + d) =
    λ d. ap (λ z. z *ℤ z) (sym (cross_from ((point_at points (i + d)).x) ((point_at points (i + d)).y) from.x from.y p q)) in
    sym (sum_from (λ d. point_at points (i + d)) p q k (j - i + 1))
    ∙ sum_same (λ d. one d *ℤ one d) (λ d. chord_cross_of points i j (i + d) *ℤ chord_cross_of points i j (i + d)) (j - i + 1) same

-- it is what is left of it in 64 bits, where it is small
pub wrapped_total : (points : List Point) (i j : ℕ) (r : RawSums) (count right above number t : ℤ)
    → r ≡ raw_of (λ d. point_at points (i + d)) (j - i + 1) → count ≡ pos (j - i + 1)
    → right ≡ rightward_of points i j → above ≡ above_of points i j
    → number ≡ (point_at points i).x *ℤ above_of points i j -ℤ (point_at points i).y *ℤ rightward_of points i j
    → unsigned_abs (spread_of points i j) < 2 ^ 48 → t ≡ int_wrap w64 (spread_from r count right above number) → t ≡ spread_of points i j
wrapped_total points i j r count right above number t er ec ex ey en small et =
    et ∙ rw (er, ec, ex, ey, en) (ap (int_wrap w64) (spread_from_is points i j))
    ∙ int_wrap_fits w64 (spread_of points i j) (fits_signed_from_abs w64 (spread_of points i j) (omega arith))
