use Rattle.std.proofs.Common.{◌≡◌, ◌⊎◌, ◌+◌, ◌-◌, ◌^◌, ◌≤◌, ℕ, ℤ, ◌<ℤ◌, unsigned_abs, w64, to_z, of_z, false, List, length, sym, ap, ◌∙◌, subst, arith}
use Rattle.std.proofs.lemmas.Int.{ints, to_z-of_z}
use Rattle.std.specs.Int.Signed.{le_z}
use Rattle.pt_core.specs.ClosedWalk.{point_at}
use Rattle.pt_core.specs.declared.point.Point.{Point}
use Rattle.pt_core.proofs.Sizes.{back}
use Rattle.path_cones.specs.Inner.Cones.{to_left_of, rise_of}
use Rattle.path_cones.specs.Inner.Strips.{IsWiderLane, seen_of, with_across}
use Rattle.straight_paths.specs.Inner.Sweeps.{AreEndsFrom, IsSeen}
use Rattle.path_cones.specs.Inner.Tails.{IsSoonerOnward, limit_of, with_onward}
use Rattle.path_cones.specs.Inner.Wedges.{diagonal_of}
use Rattle.path_cones.specs.declared.strip.Span.{Span}
use Rattle.path_cones.specs.declared.tail.Ahead.{Ahead}
use Rattle.path_cones.specs.declared.vector.Vector.{Vector}
use Rattle.straight_paths.proofs.Lanes.{seen_onward}
use Rattle.straight_paths.proofs.Runs.{seen_by}
use Rattle.path_cones.proofs.Stepping.{across_small, breadth_fits}
use Rattle.straight_paths.proofs.Windows.{end_of_seen, one_more}
use Rattle.straight_paths.proofs.fill.onward_back.Goals as goal

-- a point's number, as it is passed
passed : (v w : Vector) (p : Point) (r : ℤ) → v ≡ w → r ≡ rise_of v p → unsigned_abs r ≤ 2 ^ 48 → to_z w64 (of_z w64 r) ≡ rise_of w p
passed v w p r same is most = back r (omega arith) ∙ is ∙ ap (λ (u : Vector). rise_of u p) same

-- what the test tells
tested : (r far : ℤ) → unsigned_abs r ≤ 2 ^ 48 → le_z far (to_z w64 (of_z w64 r)) ≡ false → r <ℤ far
tested r far most is = omega (arith, ints)

still_most : (r : ℤ) → unsigned_abs r ≤ 2 ^ 48 → unsigned_abs (to_z w64 (of_z w64 r)) ≤ 2 ^ 48
still_most r most = omega (arith, ints)

pub of-lane-requires-clause-across : goal.of-lane-requires-clause-across
of-lane-requires-clause-across c = across_small c.args.start c.requires.seen.strip.is_strip

pub loop-index-init : goal.loop-index-init
loop-index-init c =
    let points = c.args.track.now in
    let tail = c.args.tail in
    let start = c.args.start in
    let most = c.requires.seen.tail.at_most in
    let seen = subst (λ (ahead : Ahead). IsSeen points c.args.last c.args.from (seen_by start tail.end ahead)) (sym c.onward-onward.ensures) c.requires.seen in
    record {
      index = omega arith;
      within = omega arith;
      there = c.point-there.ensures;
      far = passed _ _ _ c.rise-far.result c.diagonal-diagonal.ensures.value c.rise-far.ensures.value c.rise-far.ensures.most;
      lane = c.of-lane.ensures.here ∙ passed _ _ _ c.rise.result c.to_left-side.ensures.value c.rise.ensures.value c.rise.ensures.most;
      lane_most = subst (λ (z : ℤ). unsigned_abs z ≤ 2 ^ 48) (sym c.of-lane.ensures.here) (still_most c.rise.result c.rise.ensures.most);
      seen = subst (λ (across : Span). IsSeen points c.args.last c.args.from (seen_by (with_across start across) tail.end (with_onward start.quarter tail.ahead c.onward-onward.result)))
          (sym c.of-lane.ensures.across) seen;
      ends = c.requires.ends;
    }

pub point_of_lap-here-requires-clause-begin : goal.point_of_lap-here-requires-clause-begin
point_of_lap-here-requires-clause-begin c =
    subst (λ (ps : List Point). (c.lap_before-begin.result ≡ 0) ⊎ (c.lap_before-begin.result ≡ length ps)) (sym c.points-points.ensures) c.lap_before-begin.ensures.begin

pub before-requires-clause-lane : goal.before-requires-clause-lane
before-requires-clause-lane c = across_small (with_across c.args.start (seen_of c.loop-index.lane)) c.loop-index.invariant.seen.strip.is_strip

pub loop-index-preserved : goal.loop-index-preserved
loop-index-preserved c =
    let points = c.args.track.now in
    let start = c.args.start in
    let tail = c.args.tail in
    let inv = c.loop-index.invariant in
    let some = c.loop-index-test.true in
    let index = c.loop-index.index - 1 in
    let e : c.loop-index.index ≡ index + 1 = omega arith in
    let here : c.point_of_lap-here.result ≡ point_at points index =
    subst (λ (ps : List Point). c.point_of_lap-here.result ≡ point_at ps index) c.points-points.ensures c.point_of_lap-here.ensures in
    let there = subst (λ (n : ℕ). c.loop-index.there ≡ point_at points n) e inv.there in
    let rise : c.rise-next.result ≡ rise_of (diagonal_of start.quarter) c.point_of_lap-here.result =
    c.rise-next.ensures.value ∙ ap (λ (u : Vector). rise_of u c.point_of_lap-here.result) c.diagonal-diagonal.ensures.value in
    let most = c.rise-next.ensures.most in
    let low = c.later_of-low.ensures.second in
    let cut = c.saturating_sub.ensures in
    let first = c.later_of-low.ensures.first in
    let lap = c.later_of.ensures.first in
    let limit = c.limit-limit.ensures.value in
    let far : rise_of (diagonal_of start.quarter) c.point_of_lap-here.result <ℤ rise_of (diagonal_of start.quarter) c.loop-index.there =
    subst (λ (z : ℤ). z <ℤ rise_of (diagonal_of start.quarter) c.loop-index.there) rise (subst (λ (z : ℤ). c.rise-next.result <ℤ z) inv.far (tested c.rise-next.result _ most c.if-far-next.false)) in
    let across = passed _ _ _ c.rise-in-loop-index.result c.to_left-side.ensures.value c.rise-in-loop-index.ensures.value c.rise-in-loop-index.ensures.most in
    let told : IsWiderLane c.loop-index.lane (to_z w64 (of_z w64 c.rise-in-loop-index.result)) (to_z w64 (of_z w64 start.breadth)) c.in-Some.wider = c.in-Some.ensures in
    let breadth = to_z-of_z w64 start.breadth (breadth_fits start c.requires.seen.strip.is_strip) in
    let wider = subst (λ (z : ℤ). IsWiderLane c.loop-index.lane (rise_of (to_left_of start.way) c.point_of_lap-here.result) z c.in-Some.wider) breadth
    (subst (λ (z : ℤ). IsWiderLane c.loop-index.lane z (to_z w64 (of_z w64 start.breadth)) c.in-Some.wider) across told) in
    let chosen = subst (λ (step : Vector). IsSoonerOnward c.loop-index.onward step index c.sooner-onward.result) c.between.ensures c.sooner-onward.ensures in
    let later = subst (λ (n : ℕ). IsSeen points c.args.last n (seen_by (with_across start (seen_of c.loop-index.lane)) tail.end (with_onward start.quarter tail.ahead c.loop-index.onward))) e inv.seen in
    let few : tail.end ≤ index + limit_of points = omega arith in
    let seen = seen_onward points c.limit-limit.ensures.closed c.args.last index tail.end start c.loop-index.lane c.in-Some.wider tail.ahead c.loop-index.onward c.sooner-onward.result
    c.point_of_lap-here.result c.loop-index.there here there inv.lane far wider chosen c.requires.behind few later in
    record {
      index = omega arith;
      within = few;
      there = here;
      far = passed _ _ _ c.rise-next.result c.diagonal-diagonal.ensures.value c.rise-next.ensures.value most;
      lane = wider.seen_from;
      lane_most = subst (λ (z : ℤ). unsigned_abs z ≤ 2 ^ 48) (sym (wider.seen_from ∙ sym across)) (still_most c.rise-in-loop-index.result c.rise-in-loop-index.ensures.most);
      seen = seen;
      ends = one_more points c.args.last c.args.lap index (tail.end - index) c.loop-index.steps
          (subst (λ (n : ℕ). AreEndsFrom points c.args.last c.args.lap n c.loop-index.steps) e inv.ends) (omega arith)
          (end_of_seen points c.args.last index (seen_by (with_across start (seen_of c.in-Some.wider)) tail.end (with_onward start.quarter tail.ahead c.sooner-onward.result)) seen);
    }

pub seen-requires-clause-lane : goal.seen-requires-clause-lane
seen-requires-clause-lane c = across_small (with_across c.args.start (seen_of c.loop-index.lane)) c.loop-index.invariant.seen.strip.is_strip
