-- Steps onward in the quarter of a strip whose borders stay where they are on the page.
use Rattle.std.proofs.Common.{◌≡◌, ◌≢◌, ◌⊎◌, inl, inr, ℕ, zero, suc, ◌+◌, ◌≤◌, ℤ, pos, negsuc, ◌-ℤ◌, ◌*ℤ◌, ◌≤ℤ◌, ◌<ℤ◌, unsigned_abs, List, refl, sym, ◌∙◌, ap, subst, arith}
use Rattle.std.proofs.lemmas.Int.{ints}
use Rattle.pt_core.specs.ClosedWalk.{IsClosedWalk, point_at}
use Rattle.pt_core.specs.declared.point.Point.{Point}
use Rattle.pt_core.proofs.Terms.{same_value}
use Rattle.pt_core.proofs.Terms.Term.{num, plus, less, times, opposite}
use Rattle.path_cones.specs.Straight.{vector_of}
use Rattle.path_cones.specs.Cones.{cross_of}
use Rattle.path_cones.specs.Inner.Codes.{GoesByOne}
use Rattle.path_cones.specs.Inner.Cones.{to_left_of, rise_of}
use Rattle.path_cones.specs.Inner.Strips.{IsAcrossBefore, IsWiderLane, seen_of, with_across}
use Rattle.straight_paths.specs.Inner.Sweeps.{IsSeen}
use Rattle.path_cones.specs.Inner.Tails.{IsIndexOf, IsSooner, IsSoonerOnward, back_in_column, back_in_row, both_back_of, by_direction, limit_of, with_onward}
use Rattle.path_cones.specs.Inner.Wedges.{GoesOnward, IsQuarter, IsSign, diagonal_of, far_of}
use Rattle.path_cones.specs.declared.quarter.Quarter.{Quarter}
use Rattle.path_cones.specs.declared.strip.Lane.{Lane}
use Rattle.path_cones.specs.declared.strip.Strip.{Strip}
use Rattle.path_cones.specs.declared.tail.Ahead.{Ahead}
use Rattle.path_cones.specs.declared.tail.NextOnward.{NextOnward}
use Rattle.path_cones.specs.declared.vector.Vector.{Vector}
use Rattle.path_cones.proofs.Coding.{goes_by_one}
use Rattle.straight_paths.proofs.Runs.{behind_of_four, seen_by, seen_by_step}
use Rattle.path_cones.proofs.Stepping.{onward_strip}

-- ---- numbers of points

-- how far a step goes across a way, by the numbers of its two ends
cross_by_rise : (w : Vector) (h t : Point) → cross_of w (vector_of h t) ≡ rise_of (to_left_of w) t -ℤ rise_of (to_left_of w) h
cross_by_rise w h t = same_value
    (less (times (num w.x) (less (num t.y) (num h.y))) (times (num w.y) (less (num t.x) (num h.x))))
    (less (plus (times (opposite (num w.y)) (num t.x)) (times (num w.x) (num t.y))) (plus (times (opposite (num w.y)) (num h.x)) (times (num w.x) (num h.y))))
    (omega arith)

-- and how far it goes into a quarter
far_by_rise : (q : Quarter) (h t : Point) → far_of q (vector_of h t) ≡ rise_of (diagonal_of q) t -ℤ rise_of (diagonal_of q) h
far_by_rise q h t = same_value
    (plus (times (num q.right) (less (num t.x) (num h.x))) (times (num q.up) (less (num t.y) (num h.y))))
    (less (plus (times (num q.right) (num t.x)) (times (num q.up) (num t.y))) (plus (times (num q.right) (num h.x)) (times (num q.up) (num h.y))))
    (omega arith)

none_by : (s z : ℤ) → z ≡ pos 0 → s *ℤ z ≡ pos 0
none_by s z none = ap (λ y. s *ℤ y) none ∙ same_value (times (num s) (num (pos 0))) (num (pos 0)) (omega arith)

-- a step that goes into the quarter goes onward there
goes_onward : (q : Quarter) (step : Vector) → GoesByOne step → pos 0 <ℤ far_of q step → GoesOnward q step
goes_onward q step (inl upright) far =
    let none = none_by q.right step.x upright.0 in
    record { right = omega (arith, ints); up = omega (arith, ints) }
goes_onward q step (inr level) far =
    let none = none_by q.up step.y level.0 in
    record { right = omega (arith, ints); up = omega (arith, ints) }

-- ---- borders

lane_across : (start : Strip) (lane wider : Lane) (here there : Point) → lane.here ≡ rise_of (to_left_of start.way) there
    → IsWiderLane lane (rise_of (to_left_of start.way) here) start.breadth wider
    → IsAcrossBefore (with_across start (seen_of lane)) (vector_of here there) (seen_of wider)
lane_across start lane wider here there is w =
    let by = cross_by_rise start.way here there in
    let from = w.seen_from in
    let least = w.takes_in.least in
    let greatest = w.takes_in.greatest in
    let above = w.takes_in.further.least in
    let below = w.takes_in.further.most in
    let narrow = w.narrow in
    record {
      low = omega (arith, ints);
      high = omega (arith, ints);
      least = omega (arith, ints);
      greatest = omega (arith, ints);
      narrow = omega (arith, ints);
    }

-- ---- where the directions are taken next

goes_up : (z : ℤ) → z ≢ pos 0 → unsigned_abs z ≤ 1 → pos 0 ≤ℤ (pos 1 *ℤ z) → z ≡ pos 1
goes_up (pos zero) some small on = absurd (some refl)
goes_up (pos (suc n)) some small on = omega (arith, ints)
goes_up (negsuc n) some small on = absurd (omega (arith, ints))

goes_down : (z : ℤ) → z ≢ pos 0 → unsigned_abs z ≤ 1 → pos 0 ≤ℤ (negsuc 0 *ℤ z) → z ≡ negsuc 0
goes_down (pos zero) some small on = absurd (some refl)
goes_down (pos (suc n)) some small on = absurd (omega (arith, ints))
goes_down (negsuc n) some small on = omega (arith, ints)

one_some : pos 1 ≢ pos 0
one_some e = omega (arith, ints)

back_some : negsuc 0 ≢ pos 0
back_some e = omega (arith, ints)

not_both : pos 1 ≢ negsuc 0
not_both e = omega (arith, ints)

-- in one coordinate
sooner_by : (s goes : ℤ) (here below above old new : ℕ) → IsSign s → unsigned_abs goes ≤ 1 → pos 0 ≤ℤ (s *ℤ goes) → IsIndexOf goes (pos 0) old here new
    → IsIndexOf goes (pos 1) here (by_direction s below old) (by_direction s below new)
    × IsIndexOf goes (negsuc 0) here (by_direction s old above) (by_direction s new above)
sooner_by s goes here below above old new (inl e) small on (inl none) = rw e (
  inr (λ k. one_some (sym k ∙ none.0), none.1),
  inr (λ k. back_some (sym k ∙ none.0), refl),
)
sooner_by s goes here below above old new (inl e) small on (inr some) =
    let up = goes_up goes some.0 small (subst (λ z. pos 0 ≤ℤ (z *ℤ goes)) e on) in
    rw e (
      inl (up, some.1),
      inr (λ k. not_both (sym up ∙ k), refl),
    )
sooner_by s goes here below above old new (inr e) small on (inl none) = rw e (
  inr (λ k. one_some (sym k ∙ none.0), refl),
  inr (λ k. back_some (sym k ∙ none.0), none.1),
)
sooner_by s goes here below above old new (inr e) small on (inr some) =
    let down = goes_down goes some.0 small (subst (λ z. pos 0 ≤ℤ (z *ℤ goes)) e on) in
    rw e (
      inr (λ k. not_both (sym k ∙ down), refl),
      inl (down, some.1),
    )

unit_some : (z : ℤ) → (z ≡ pos 1) ⊎ (z ≡ negsuc 0) → z ≢ pos 0
unit_some z (inl e) none = one_some (sym e ∙ none)
unit_some z (inr e) none = back_some (sym e ∙ none)

-- what is told by the one coordinate, by the other one
by_column : (step : Vector) (here old new : ℕ) → GoesByOne step → IsIndexOf step.x (pos 0) here old new → IsIndexOf step.y (pos 0) old here new
by_column step here old new (inl upright) (inl none) = inr (unit_some step.y upright.1, none.1)
by_column step here old new (inl upright) (inr some) = absurd (some.0 upright.0)
by_column step here old new (inr level) (inl none) = absurd (unit_some step.x level.1 none.0)
by_column step here old new (inr level) (inr some) = inl (level.0, some.1)

one_most : (z : ℤ) → (z ≡ pos 1) ⊎ (z ≡ negsuc 0) → unsigned_abs z ≤ 1
one_most z (inl e) = omega (arith, ints)
one_most z (inr e) = omega (arith, ints)

none_most : (z : ℤ) → z ≡ pos 0 → unsigned_abs z ≤ 1
none_most z e = omega (arith, ints)

x_most : (step : Vector) → GoesByOne step → unsigned_abs step.x ≤ 1
x_most step (inl upright) = none_most step.x upright.0
x_most step (inr level) = one_most step.x level.1

y_most : (step : Vector) → GoesByOne step → unsigned_abs step.y ≤ 1
y_most step (inl upright) = one_most step.y upright.1
y_most step (inr level) = none_most step.y level.0

onward_sooner : (q : Quarter) (base : Ahead) (onward sooner : NextOnward) (step : Vector) (here : ℕ) → IsQuarter q → GoesByOne step → GoesOnward q step
    → IsSoonerOnward onward step here sooner → IsSooner (with_onward q base onward) step here (with_onward q base sooner)
onward_sooner q base onward sooner step here is by_one on chosen =
    let row = sooner_by q.right step.x here base.east base.west onward.row sooner.row is.right (x_most step by_one) on.right chosen.row in
    let column = sooner_by q.up step.y here base.north base.south onward.column sooner.column is.up (y_most step by_one) on.up
    (by_column step here onward.column sooner.column by_one chosen.column) in
    record { east = row.0; north = column.0; west = row.1; south = column.1; same_last = refl }

-- the directions that go back are taken where they were
row_back : (right up : ℤ) (base : Ahead) (onward : NextOnward)
    → back_in_row right (with_onward (record { right = right; up = up }) base onward) ≡ back_in_row right base
row_back (pos n) up base onward = refl
row_back (negsuc n) up base onward = refl

column_back : (right up : ℤ) (base : Ahead) (onward : NextOnward)
    → back_in_column up (with_onward (record { right = right; up = up }) base onward) ≡ back_in_column up base
column_back right (pos n) base onward = refl
column_back right (negsuc n) base onward = refl

-- ---- from one index earlier

pub seen_onward : (points : List Point) → IsClosedWalk points → (last at end : ℕ) (start : Strip) (lane wider : Lane) (base : Ahead) (onward sooner : NextOnward)
    (here there : Point) → here ≡ point_at points at → there ≡ point_at points (at + 1) → lane.here ≡ rise_of (to_left_of start.way) there
    → rise_of (diagonal_of start.quarter) here <ℤ rise_of (diagonal_of start.quarter) there
    → IsWiderLane lane (rise_of (to_left_of start.way) here) start.breadth wider → IsSoonerOnward onward (vector_of here there) at sooner
    → end ≤ both_back_of start.quarter base → end ≤ at + limit_of points
    → IsSeen points last (at + 1) (seen_by (with_across start (seen_of lane)) end (with_onward start.quarter base onward))
    → IsSeen points last at (seen_by (with_across start (seen_of wider)) end (with_onward start.quarter base sooner))
seen_onward points walk last at end start lane wider base onward sooner here there here_is there_is is far w chosen behind few seen =
    let q = start.quarter in
    let step = vector_of here there in
    let step_is : step ≡ vector_of (point_at points at) (point_at points (at + 1)) = rw (here_is, there_is) refl in
    let by_one = goes_by_one points at step walk step_is in
    let by = far_by_rise q here there in
    let on : GoesOnward q step = goes_onward q step by_one (omega (arith, ints)) in
    let is_strip = seen.strip.is_strip in
    let strip = with_across start (seen_of lane) in
    let before = onward_strip strip (seen_of wider) step is_strip (lane_across start lane wider here there is w) on in
    let four = behind_of_four q (with_onward q base sooner) is_strip.quarter in
    let row = row_back q.right q.up base sooner in
    let column = column_back q.right q.up base sooner in
    seen_by_step points walk last at end strip (with_onward q base onward) step step_is seen end (with_across start (seen_of wider)) (with_onward q base sooner)
    before (onward_sooner q base onward sooner step at is_strip.quarter by_one on chosen) (omega arith) (omega arith)
