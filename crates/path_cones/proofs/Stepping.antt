-- A strip that is seen from one step earlier.
use Rattle.std.proofs.Common.{◌≡◌, ℕ, zero, suc, ◌+◌, ◌≤◌, ℤ, pos, neg_ℤ, ◌+ℤ◌, ◌-ℤ◌, ◌*ℤ◌, ◌≤ℤ◌, FitsSigned, w64, refl, subst, arith}
use Rattle.std.proofs.lemmas.Int.{ints}
use Rattle.pt_core.specs.declared.point.Point.{Point}
use Rattle.pt_core.proofs.Terms.{same_value}
use Rattle.pt_core.proofs.Terms.Term.{num, plus, less, times}
use Rattle.path_cones.specs.Corners.{step_from}
use Rattle.path_cones.specs.Cones.{cross_of}
use Rattle.path_cones.specs.Inner.Strips.{IsAcrossBefore, IsEarlierStrip, IsFromTo, IsOnward, IsSpan, IsStrip, StaysIn, TakesStep, across_at, right_at, up_at}
use Rattle.path_cones.specs.Inner.Wedges.{GoesOnward}
use Rattle.path_cones.specs.declared.vector.Vector.{Vector}
use Rattle.path_cones.specs.declared.strip.Span.{Span}
use Rattle.path_cones.specs.declared.strip.Strip.{Strip}
use Rattle.path_cones.proofs.Pieces.{rest_of}
use Rattle.path_cones.proofs.Quarters.{sign_most}

pub breadth_most : (strip : Strip) → IsStrip strip → strip.breadth ≤ℤ pos 131070
breadth_most strip is =
    let e = is.breadth in
    let x = sign_most strip.quarter.right strip.way.x 65535 is.quarter.right is.short.x in
    let y = sign_most strip.quarter.up strip.way.y 65535 is.quarter.up is.short.y in
    omega (arith, ints)

pub breadth_fits : (strip : Strip) → IsStrip strip → FitsSigned w64 strip.breadth
breadth_fits strip is =
    let some = is.some in
    let most = breadth_most strip is in
    omega (arith, ints)

-- how far the path goes to each side, as small numbers
pub across_small : (strip : Strip) → IsStrip strip → IsSpan (neg_ℤ (pos 131072)) (pos 131072) strip.across
across_small strip is =
    let least = is.least in
    let greatest = is.greatest in
    let narrow = is.narrow in
    let breadth = breadth_most strip is in
    record {
      least = record { least = omega (arith, ints); most = least };
      greatest = record { least = greatest; most = omega (arith, ints) };
    }

-- the strip as it is seen from there
abbrev pub seen_from : Strip → Span → ℤ → ℤ → Strip
seen_from strip across x y = record {
  quarter = strip.quarter;
  way = strip.way;
  breadth = strip.breadth;
  across = across;
  back = record { x = x; y = y };
}

-- how far the points of a path are from its start, by how far they are from its next point
cross_part : (wx wy x y ox oy nx ny : ℤ)
    → wx *ℤ (y -ℤ oy) -ℤ wy *ℤ (x -ℤ ox) ≡ (wx *ℤ (y -ℤ ny) -ℤ wy *ℤ (x -ℤ nx)) +ℤ (wx *ℤ (ny -ℤ oy) -ℤ wy *ℤ (nx -ℤ ox))
cross_part wx wy x y ox oy nx ny = same_value
    (less (times (num wx) (less (num y) (num oy))) (times (num wy) (less (num x) (num ox))))
    (plus (less (times (num wx) (less (num y) (num ny))) (times (num wy) (less (num x) (num nx))))
    (less (times (num wx) (less (num ny) (num oy))) (times (num wy) (less (num nx) (num ox)))))
    (omega arith)

part_by : (q x o n : ℤ) → q *ℤ (x -ℤ o) ≡ q *ℤ (x -ℤ n) +ℤ q *ℤ (n -ℤ o)
part_by q x o n = same_value
    (times (num q) (less (num x) (num o)))
    (plus (times (num q) (less (num x) (num n))) (times (num q) (less (num n) (num o))))
    (omega arith)

cross_start : (wx wy x y : ℤ) → wx *ℤ (y -ℤ y) -ℤ wy *ℤ (x -ℤ x) ≡ pos 0
cross_start wx wy x y = same_value
    (less (times (num wx) (less (num y) (num y))) (times (num wy) (less (num x) (num x)))) (num (pos 0)) (omega arith)

pub part_start : (q x : ℤ) → q *ℤ (x -ℤ x) ≡ pos 0
part_start q x = same_value (times (num q) (less (num x) (num x))) (num (pos 0)) (omega arith)

-- a number that is counted from the path's start, and from its next point
module _ (f g : ℕ → ℤ) (c : ℤ) (start : f 0 ≡ pos 0) (later : (k : ℕ) → f (suc k) ≡ g k +ℤ c) (count : ℕ) where
  pub onward_before : (back : ℤ) → IsOnward g count → ((k : ℕ) → k ≤ count → neg_ℤ back ≤ℤ g k) → (back -ℤ c) ≤ℤ pos 1 → IsOnward f (suc count)
  onward_before back old behind small zero zero a b = omega (arith, ints)
  onward_before back old behind small zero (suc k) a b =
      let e = later k in
      let h = behind k (omega arith) in
      omega (arith, ints)
  onward_before back old behind small (suc j) zero a b = absurd (omega arith)
  onward_before back old behind small (suc j) (suc k) a b =
      let e = later j in
      let d = later k in
      let h = old j k (omega arith) (omega arith) in
      omega (arith, ints)

  pub back_before : (back new : ℤ) → ((k : ℕ) → k ≤ count → neg_ℤ back ≤ℤ g k) → pos 0 ≤ℤ new → (back -ℤ c) ≤ℤ new
      → (k : ℕ) → k ≤ suc count → neg_ℤ new ≤ℤ f k
  back_before back new behind some more zero h = omega (arith, ints)
  back_before back new behind some more (suc k) h =
      let e = later k in
      let d = behind k (omega arith) in
      omega (arith, ints)

  pub inside_before : (old new : Span) → ((k : ℕ) → k ≤ count → IsFromTo old.least old.greatest (g k))
      → new.least ≤ℤ pos 0 → pos 0 ≤ℤ new.greatest → new.least ≤ℤ (old.least +ℤ c) → (old.greatest +ℤ c) ≤ℤ new.greatest
      → (k : ℕ) → k ≤ suc count → IsFromTo new.least new.greatest (f k)
  inside_before old new is low high least greatest zero h = record { least = omega (arith, ints); most = omega (arith, ints) }
  inside_before old new is low high least greatest (suc k) h =
      let e = later k in
      let here = is k (omega arith) in
      let here_least = here.least in
      let here_most = here.most in
      record { least = omega (arith, ints); most = omega (arith, ints) }

pub stays_before : (strip : Strip) (across : Span) (x y : ℤ) (step : Vector) (path : ℕ → Point) (count : ℕ) → step ≡ step_from path 0
    → across.least ≤ℤ pos 0 → pos 0 ≤ℤ across.greatest
    → across.least ≤ℤ (strip.across.least +ℤ cross_of strip.way step) → (strip.across.greatest +ℤ cross_of strip.way step) ≤ℤ across.greatest
    → pos 0 ≤ℤ x → (strip.back.x -ℤ strip.quarter.right *ℤ step.x) ≤ℤ x → x ≤ℤ pos 1
    → pos 0 ≤ℤ y → (strip.back.y -ℤ strip.quarter.up *ℤ step.y) ≤ℤ y → y ≤ℤ pos 1
    → StaysIn strip (rest_of path) count → StaysIn (seen_from strip across x y) path (suc count)
stays_before strip across x y step path count is low high least greatest x_some x_more x_most y_some y_more y_most stays =
    let q = strip.quarter in
    let w = strip.way in
    let p = path 0 in
    let n = path 1 in
    let c : ℤ = cross_of w (step_from path 0) in
    let cx : ℤ = q.right *ℤ (step_from path 0).x in
    let cy : ℤ = q.up *ℤ (step_from path 0).y in
    let least_by : across.least ≤ℤ (strip.across.least +ℤ c) = subst (λ (o : Vector). across.least ≤ℤ (strip.across.least +ℤ cross_of w o)) is least in
    let greatest_by : (strip.across.greatest +ℤ c) ≤ℤ across.greatest = subst (λ (o : Vector). (strip.across.greatest +ℤ cross_of w o) ≤ℤ across.greatest) is greatest in
    let x_by : (strip.back.x -ℤ cx) ≤ℤ x = subst (λ (o : Vector). (strip.back.x -ℤ q.right *ℤ o.x) ≤ℤ x) is x_more in
    let y_by : (strip.back.y -ℤ cy) ≤ℤ y = subst (λ (o : Vector). (strip.back.y -ℤ q.up *ℤ o.y) ≤ℤ y) is y_more in
    let across_start : across_at w path 0 ≡ pos 0 = cross_start w.x w.y p.x p.y in
    let right_start : right_at q path 0 ≡ pos 0 = part_start q.right p.x in
    let up_start : up_at q path 0 ≡ pos 0 = part_start q.up p.y in
    let across_later = λ (k : ℕ). cross_part w.x w.y (path (suc k)).x (path (suc k)).y p.x p.y n.x n.y in
    let right_later = λ (k : ℕ). part_by q.right (path (suc k)).x p.x n.x in
    let up_later = λ (k : ℕ). part_by q.up (path (suc k)).y p.y n.y in
    record {
      inside = inside_before (across_at w path) (across_at w (rest_of path)) c across_start across_later count strip.across across stays.inside low high least_by greatest_by;
      right = onward_before (right_at q path) (right_at q (rest_of path)) cx right_start right_later count strip.back.x stays.right stays.back_x (omega (arith, ints));
      up = onward_before (up_at q path) (up_at q (rest_of path)) cy up_start up_later count strip.back.y stays.up stays.back_y (omega (arith, ints));
      back_x = back_before (right_at q path) (right_at q (rest_of path)) cx right_start right_later count strip.back.x x stays.back_x x_some x_by;
      back_y = back_before (up_at q path) (up_at q (rest_of path)) cy up_start up_later count strip.back.y y stays.back_y y_some y_by;
    }

pub strip_before : (strip : Strip) (across : Span) (x y : ℤ) → IsStrip strip
    → across.least ≤ℤ pos 0 → pos 0 ≤ℤ across.greatest → (across.greatest -ℤ across.least) ≤ℤ strip.breadth
    → IsFromTo (pos 0) (pos 1) x → IsFromTo (pos 0) (pos 1) y → IsStrip (seen_from strip across x y)
strip_before strip across x y is low high narrow in_x in_y = record {
  quarter = is.quarter;
  short = is.short;
  right = is.right;
  up = is.up;
  breadth = is.breadth;
  some = is.some;
  least = low;
  greatest = high;
  narrow = narrow;
  back_x = in_x;
  back_y = in_y;
}

pub earlier_strip : (strip : Strip) (across : Span) (x y : ℤ) (step : Vector) → IsStrip strip → IsAcrossBefore strip step across
    → IsFromTo (pos 0) (pos 1) x → (strip.back.x -ℤ strip.quarter.right *ℤ step.x) ≤ℤ x
    → IsFromTo (pos 0) (pos 1) y → (strip.back.y -ℤ strip.quarter.up *ℤ step.y) ≤ℤ y
    → IsEarlierStrip strip step (seen_from strip across x y)
earlier_strip strip across x y step is before in_x x_more in_y y_more = record {
  is_strip = strip_before strip across x y is before.low before.high before.narrow in_x in_y;
  takes = λ path count first stays.
      let e : count + 1 ≡ suc count = omega arith in
      rw e (stays_before strip across x y step path count first before.low before.high before.least before.greatest
      in_x.least x_more in_x.most in_y.least y_more in_y.most stays);
  same_quarter = refl;
}

no_farther : (z by : ℤ) → pos 0 ≤ℤ by → (z -ℤ by) ≤ℤ z
no_farther z by onward = omega (arith, ints)

-- a step onward in the quarter
pub onward_strip : (strip : Strip) (across : Span) (step : Vector) → IsStrip strip → IsAcrossBefore strip step across
    → GoesOnward strip.quarter step → IsEarlierStrip strip step (seen_from strip across strip.back.x strip.back.y)
onward_strip strip across step is before onward =
    earlier_strip strip across strip.back.x strip.back.y step is before
    is.back_x (no_farther strip.back.x (strip.quarter.right *ℤ step.x) onward.right)
    is.back_y (no_farther strip.back.y (strip.quarter.up *ℤ step.y) onward.up)
