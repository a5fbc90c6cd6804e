-- How far a path goes to each side, after one more straight run.
use Rattle.std.proofs.Common.{◌≡◌, ℕ, zero, suc, ◌+◌, ◌-◌, ◌<◌, ◌≤◌, inl, inr, ℤ, pos, negsuc, ◌+ℤ◌, ◌-ℤ◌, ◌*ℤ◌, ◌≤ℤ◌, sym, subst, arith}
use Rattle.std.proofs.lemmas.Int.{ints, by_lt_z}
use Rattle.std.proofs.lemmas.Nat.{mul-le}
use Rattle.std.proofs.lemmas.Bool.{cases_lt}
use Rattle.pt_core.specs.declared.point.Point.{Point}
use Rattle.pt_core.proofs.Terms.{same_value}
use Rattle.pt_core.proofs.Terms.Term.{num, plus, less, times}
use Rattle.path_cones.specs.Straight.{vector_of}
use Rattle.path_cones.specs.Cones.{cross_of}
use Rattle.path_cones.specs.Corners.{step_from}
use Rattle.path_cones.specs.Inner.Corners.{GoesStraight}
use Rattle.path_cones.specs.Inner.Strips.{IsFromTo, IsOnward, AreInSpan, across_at, right_at, up_at, IsExtent, IsSmallExtent, TakesIn, no_span}
use Rattle.path_cones.specs.declared.vector.Vector.{Vector}
use Rattle.path_cones.specs.declared.quarter.Quarter.{Quarter}
use Rattle.path_cones.specs.declared.strip.Extent.{Extent}
use Rattle.path_cones.specs.declared.strip.Span.{Span}
use Rattle.path_cones.proofs.Running.{along_x, along_y}

-- ---- a number that changes by the same at each step of a run

times_up : (c : ℤ) (t u : ℕ) → t ≤ u → pos 0 ≤ℤ c → (pos t *ℤ c) ≤ℤ (pos u *ℤ c)
times_up (pos c) t u h k = let m = mul-le t c u c h (omega arith) in omega (arith, ints)
times_up (negsuc c) t u h k = absurd (omega (arith, ints))

opposite_times : (t : ℕ) (c : ℤ) → pos t *ℤ (pos 0 -ℤ c) ≡ pos 0 -ℤ pos t *ℤ c
opposite_times t c = same_value (times (num (pos t)) (less (num (pos 0)) (num c))) (less (num (pos 0)) (times (num (pos t)) (num c))) (omega arith)

times_down : (c : ℤ) (t u : ℕ) → t ≤ u → c ≤ℤ pos 0 → (pos u *ℤ c) ≤ℤ (pos t *ℤ c)
times_down c t u h k =
    let up = times_up (pos 0 -ℤ c) t u h (omega (arith, ints)) in
    let e = opposite_times t c in
    let f = opposite_times u c in
    omega (arith, ints)

module _ (f : ℕ → ℤ) (s r : ℕ) (c : ℤ) (along : (t : ℕ) → t ≤ r → f (s + t) ≡ f s +ℤ pos t *ℤ c) where
  rises : (t u : ℕ) → t ≤ u → u ≤ r → pos 0 ≤ℤ c → f (s + t) ≤ℤ f (s + u)
  rises t u h l k =
      let e = along t (omega arith) in
      let g = along u l in
      let m = times_up c t u h k in
      omega (arith, ints)

  falls : (t u : ℕ) → t ≤ u → u ≤ r → c ≤ℤ pos 0 → f (s + u) ≤ℤ f (s + t)
  falls t u h l k =
      let e = along t (omega arith) in
      let g = along u l in
      let m = times_down c t u h k in
      omega (arith, ints)

  at_begin : f (s + 0) ≡ f s
  at_begin = let e = along 0 (omega arith) in omega (arith, ints)

  between_ends : (low high : ℤ) → IsFromTo low high (f s) → IsFromTo low high (f (s + r)) → (t : ℕ) → t ≤ r → IsFromTo low high (f (s + t))
  between_ends low high here there t h =
      let e = at_begin in
      let a = here.least in
      let b = here.most in
      let c0 = there.least in
      let d = there.most in
      by_lt_z c (pos 0)
      (λ l.
      let m = falls 0 t (omega arith) h (omega (arith, ints)) in
      let n = falls t r h (omega arith) (omega (arith, ints)) in
      record { least = omega (arith, ints); most = omega (arith, ints) })
      (λ l.
      let m = rises 0 t (omega arith) h l in
      let n = rises t r h (omega arith) l in
      record { least = omega (arith, ints); most = omega (arith, ints) })

  span_on : (old new : Span) → AreInSpan old f s → TakesIn old (f (s + r)) new → AreInSpan new f (s + r)
  span_on old new is takes k h =
      let a = takes.least in
      let b = takes.greatest in
      let wider = λ (z : ℤ) (in_old : IsFromTo old.least old.greatest z).
      let least = in_old.least in
      let most = in_old.most in
      let w : IsFromTo new.least new.greatest z = record { least = omega (arith, ints); most = omega (arith, ints) } in
      w in
      elim (cases_lt s k) [
        | inl later ↦
            let e : s + (k - s) ≡ k = omega arith in
            subst (λ (n : ℕ). IsFromTo new.least new.greatest (f n)) e
            (between_ends new.least new.greatest (wider (f s) (is s (omega arith))) takes.further (k - s) (omega arith))
        | inr before ↦ wider (f k) (is k before)
      ]

  onward_on : (g : ℤ) → IsOnward f s → ((j : ℕ) → j ≤ s → f j ≤ℤ g) → g ≤ℤ (f (s + r) +ℤ pos 1) → IsOnward f (s + r)
  onward_on g old most far j k a b =
      let begin = at_begin in
      elim (cases_lt s k) [
        | inr before ↦ old j k a before
        | inl later ↦
            let e : s + (k - s) ≡ k = omega arith in
            let P : ℕ → Type 0 = λ n. f j ≤ℤ (f n +ℤ pos 1) in
            subst P e
            (elim (cases_lt s j) [
              | inr early ↦
                  let to_begin = old j s early (omega arith) in
                  let to_most = most j early in
                  by_lt_z c (pos 0)
                  (λ l. let m = falls (k - s) r (omega arith) (omega arith) (omega (arith, ints)) in omega (arith, ints))
                  (λ l. let m = rises 0 (k - s) (omega arith) (omega arith) l in omega (arith, ints))
              | inl on ↦
                  let g0 : s + (j - s) ≡ j = omega arith in
                  let Q : ℕ → Type 0 = λ n. f n ≤ℤ (f (s + (k - s)) +ℤ pos 1) in
                  let to_most = most s (omega arith) in
                  subst Q g0
                  (by_lt_z c (pos 0)
                  (λ l.
                  let m = falls (k - s) r (omega arith) (omega arith) (omega (arith, ints)) in
                  let n = falls 0 (j - s) (omega arith) (omega arith) (omega (arith, ints)) in
                  omega (arith, ints))
                  (λ l. let m = rises (j - s) (k - s) (omega arith) (omega arith) l in omega (arith, ints)))
            ])
      ]

-- ---- of a path

part_on : (q x o t u : ℤ) → q *ℤ (x +ℤ t *ℤ u -ℤ o) ≡ q *ℤ (x -ℤ o) +ℤ t *ℤ (q *ℤ u)
part_on q x o t u = same_value
    (times (num q) (less (plus (num x) (times (num t) (num u))) (num o)))
    (plus (times (num q) (less (num x) (num o))) (times (num t) (times (num q) (num u))))
    (omega arith)

cross_on : (wx wy x y ox oy t ux uy : ℤ)
    → wx *ℤ (y +ℤ t *ℤ uy -ℤ oy) -ℤ wy *ℤ (x +ℤ t *ℤ ux -ℤ ox) ≡ (wx *ℤ (y -ℤ oy) -ℤ wy *ℤ (x -ℤ ox)) +ℤ t *ℤ (wx *ℤ uy -ℤ wy *ℤ ux)
cross_on wx wy x y ox oy t ux uy = same_value
    (less (times (num wx) (less (plus (num y) (times (num t) (num uy))) (num oy))) (times (num wy) (less (plus (num x) (times (num t) (num ux))) (num ox))))
    (plus (less (times (num wx) (less (num y) (num oy))) (times (num wy) (less (num x) (num ox)))) (times (num t) (less (times (num wx) (num uy)) (times (num wy) (num ux)))))
    (omega arith)

module _ (way : Vector) (path : ℕ → Point) (s r : ℕ) (run : GoesStraight path s r) where
  across_on : (t : ℕ) → t ≤ r → across_at way path (s + t) ≡ across_at way path s +ℤ pos t *ℤ cross_of way (step_from path s)
  across_on t h =
      let e = along_x path s r run t h in
      let f = along_y path s r run t h in
      rw (e, f) (cross_on way.x way.y (path s).x (path s).y (path 0).x (path 0).y (pos t) (step_from path s).x (step_from path s).y)

module _ (quarter : Quarter) (way : Vector) (path : ℕ → Point) (s r : ℕ) (run : GoesStraight path s r) where
  right_on : (t : ℕ) → t ≤ r → right_at quarter path (s + t) ≡ right_at quarter path s +ℤ pos t *ℤ (quarter.right *ℤ (step_from path s).x)
  right_on t h =
      let e = along_x path s r run t h in
      rw e (part_on quarter.right (path s).x (path 0).x (pos t) (step_from path s).x)

  up_on : (t : ℕ) → t ≤ r → up_at quarter path (s + t) ≡ up_at quarter path s +ℤ pos t *ℤ (quarter.up *ℤ (step_from path s).y)
  up_on t h =
      let e = along_y path s r run t h in
      rw e (part_on quarter.up (path s).y (path 0).y (pos t) (step_from path s).y)

  extent_by : (old new : Extent) → IsExtent quarter way path s old → IsSmallExtent new
      → TakesIn old.across (across_at way path (s + r)) new.across → TakesIn old.right (right_at quarter path (s + r)) new.right
      → TakesIn old.up (up_at quarter path (s + r)) new.up
      → old.right.greatest ≤ℤ (right_at quarter path (s + r) +ℤ pos 1) → old.up.greatest ≤ℤ (up_at quarter path (s + r) +ℤ pos 1)
      → IsExtent quarter way path (s + r) new
  extent_by old new is small across right up on_right on_up = record {
    small = small;
    across = span_on (across_at way path) s r (cross_of way (step_from path s)) (across_on way path s r run) old.across new.across is.across across;
    right = span_on (right_at quarter path) s r (quarter.right *ℤ (step_from path s).x) right_on old.right new.right is.right right;
    up = span_on (up_at quarter path) s r (quarter.up *ℤ (step_from path s).y) up_on old.up new.up is.up up;
    on_right = onward_on (right_at quarter path) s r (quarter.right *ℤ (step_from path s).x) right_on old.right.greatest is.on_right
        (λ j h. (is.right j h).most) on_right;
    on_up = onward_on (up_at quarter path) s r (quarter.up *ℤ (step_from path s).y) up_on old.up.greatest is.on_up
        (λ j h. (is.up j h).most) on_up;
  }

-- the extent after a run to a later point
pub extent_on : (quarter : Quarter) (way : Vector) (path : ℕ → Point) (s next : ℕ) (old new : Extent) → s < next → GoesStraight path s (next - s)
    → IsExtent quarter way path s old → IsSmallExtent new
    → TakesIn old.across (across_at way path next) new.across → TakesIn old.right (right_at quarter path next) new.right
    → TakesIn old.up (up_at quarter path next) new.up
    → old.right.greatest ≤ℤ (right_at quarter path next +ℤ pos 1) → old.up.greatest ≤ℤ (up_at quarter path next +ℤ pos 1)
    → IsExtent quarter way path next new
extent_on quarter way path s next old new more run is small across right up on_right on_up =
    let e : next ≡ s + (next - s) = omega arith in
    subst (λ (n : ℕ). IsExtent quarter way path n new) (sym e)
    (extent_by quarter way path s (next - s) run old new is small
    (subst (λ (n : ℕ). TakesIn old.across (across_at way path n) new.across) e across)
    (subst (λ (n : ℕ). TakesIn old.right (right_at quarter path n) new.right) e right)
    (subst (λ (n : ℕ). TakesIn old.up (up_at quarter path n) new.up) e up)
    (subst (λ (n : ℕ). old.right.greatest ≤ℤ (right_at quarter path n +ℤ pos 1)) e on_right)
    (subst (λ (n : ℕ). old.up.greatest ≤ℤ (up_at quarter path n +ℤ pos 1)) e on_up))

-- how far across the way a path goes after a run to a later point
pub span_after : (way : Vector) (path : ℕ → Point) (s next : ℕ) (old new : Span) → s < next → GoesStraight path s (next - s)
    → AreInSpan old (across_at way path) s → TakesIn old (across_at way path next) new → AreInSpan new (across_at way path) next
span_after way path s next old new more run is takes =
    let e : s + (next - s) ≡ next = omega arith in
    let P : ℕ → Type 0 = λ n. AreInSpan new (across_at way path) n in
    subst P e
    (span_on (across_at way path) s (next - s) (cross_of way (step_from path s)) (across_on way path s (next - s) run) old new is
    (subst (λ (n : ℕ). TakesIn old (across_at way path n) new) (sym e) takes))

-- the same where there may be no step
pub span_up_to : (way : Vector) (path : ℕ → Point) (s next : ℕ) (old new : Span) → s ≤ next → GoesStraight path s (next - s)
    → AreInSpan old (across_at way path) s → TakesIn old (across_at way path next) new → AreInSpan new (across_at way path) next
span_up_to way path s next old new more run is takes = elim (cases_lt s next) [
  | inl some ↦ span_after way path s next old new some run is takes
  | inr none ↦ λ k h.
      let here = is k (omega arith) in
      let a = here.least in
      let b = here.most in
      let c = takes.least in
      let d = takes.greatest in
      record { least = omega (arith, ints); most = omega (arith, ints) }
]

-- the start alone
pub from_start : (o : Point) (w : Vector) → cross_of w (vector_of o o) ≡ pos 0
from_start o w = same_value
    (less (times (num w.x) (less (num o.y) (num o.y))) (times (num w.y) (less (num o.x) (num o.x)))) (num (pos 0)) (omega arith)

part_start : (q x : ℤ) → q *ℤ (x -ℤ x) ≡ pos 0
part_start q x = same_value (times (num q) (less (num x) (num x))) (num (pos 0)) (omega arith)

at_zero : (f : ℕ → ℤ) → f 0 ≡ pos 0 → (k : ℕ) → k ≤ 0 → IsFromTo (pos 0) (pos 0) (f k)
at_zero f e zero h = record { least = omega (arith, ints); most = omega (arith, ints) }
at_zero f e (suc k) h = absurd (omega arith)

onward_zero : (f : ℕ → ℤ) → IsOnward f 0
onward_zero f zero zero a b = omega (arith, ints)
onward_zero f (suc j) zero a b = absurd (omega arith)
onward_zero f j (suc k) a b = absurd (omega arith)

pub extent_at_start : (quarter : Quarter) (way : Vector) (path : ℕ → Point) (extent : Extent)
    → extent ≡ record { across = no_span; right = no_span; up = no_span } → IsExtent quarter way path 0 extent
extent_at_start quarter way path extent is =
    let P : Extent → Type 0 = IsExtent quarter way path 0 in
    let zero_low : (low : ℤ) → low ≤ℤ pos 0 → IsFromTo low (pos 0) (pos 0) = λ low h. record { least = h; most = omega (arith, ints) } in
    let zero_high : (high : ℤ) → pos 0 ≤ℤ high → IsFromTo (pos 0) high (pos 0) = λ high h. record { least = omega (arith, ints); most = h } in
    subst P (sym is) (record {
      small = record {
        across = record { least = zero_low _ (omega (arith, ints)); greatest = zero_high _ (omega (arith, ints)) };
        right = record { least = zero_low _ (omega (arith, ints)); greatest = zero_high _ (omega (arith, ints)) };
        up = record { least = zero_low _ (omega (arith, ints)); greatest = zero_high _ (omega (arith, ints)) };
      };
      across = at_zero (across_at way path) (from_start (path 0) way);
      right = at_zero (right_at quarter path) (part_start quarter.right (path 0).x);
      up = at_zero (up_at quarter path) (part_start quarter.up (path 0).y);
      on_right = onward_zero (right_at quarter path);
      on_up = onward_zero (up_at quarter path);
    })
