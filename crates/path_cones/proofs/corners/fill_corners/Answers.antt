use Rattle.std.proofs.Common.{◌+◌, ◌-◌, length, sym, ◌∙◌, ap, subst, arith}
use Rattle.pt_core.specs.ClosedWalk.{point_at}
use Rattle.path_cones.specs.Corners.{IsNextCorner}
use Rattle.path_cones.specs.Inner.Corners.{mark_of}
use Rattle.path_cones.proofs.Marks.{mark_back, step_marked}
use Rattle.path_cones.proofs.Places.{one_more_down}
use Rattle.path_cones.proofs.corners.fill_corners.Goals as goal

pub loop-index-init : goal.loop-index-init
loop-index-init c =
    let points = c.args.laps.now in
    let first = c.mark-there.ensures in
    let second = c.mark.ensures in
    let same = c.size.ensures.value ∙ sym c.size-index.ensures.value in
    let again = c.size-2.ensures.value ∙ sym c.size-index.ensures.value in
    let there = first.value ∙ ap mark_of c.at.ensures.value ∙ ap (λ n. mark_of (point_at points n)) same in
    let beyond = second.value ∙ ap mark_of c.at-2.ensures.value in
    let back = mark_back c.mark-there.result first.small in
    let back_2 = mark_back c.mark.result second.small in
    record {
      next = subst (λ n. IsNextCorner points n c.first_corner-next.result) (sym c.size-index.ensures.value) c.first_corner-next.ensures;
      there = back ∙ there;
      small = rw back first.small;
      after = rw back_2 (step_marked points c.size-index.result (c.size-2.result + 1) c.mark.result c.mark-there.result (ap (λ n. n + 1) again) beyond there second.small first.small);
      done = λ i h l. absurd (omega (arith, c.size-index.ensures.value));
    }

pub corner_earlier-next-requires-clause-step : goal.corner_earlier-next-requires-clause-step
corner_earlier-next-requires-clause-step c =
    let inv = c.loop-index.invariant in
    step_marked c.args.laps.now (c.loop-index.index - 1) c.loop-index.index _ c.mark-here.result (omega arith) inv.there
    (c.mark-here.ensures.value ∙ ap mark_of c.in_lap.ensures) inv.small c.mark-here.ensures.small

pub loop-index-preserved : goal.loop-index-preserved
loop-index-preserved c =
    let points = c.args.laps.now in
    let inv = c.loop-index.invariant in
    let here = c.mark-here.ensures in
    let is = here.value ∙ ap mark_of c.in_lap.ensures in
    let back = mark_back c.mark-here.result here.small in
    record {
      next = c.corner_earlier-next.ensures.corner;
      there = back ∙ is;
      small = rw back here.small;
      after = step_marked points (c.loop-index.index - 1) c.loop-index.index _ c.mark-here.result (omega arith) inv.there is inv.small here.small;
      done = one_more_down (IsNextCorner points) c.loop-index.corners (c.loop-index.index - 1) c.corner_earlier-next.result (length points)
          (omega arith) (λ k h l. c.loop-index.invariant.done k (omega arith) l) c.corner_earlier-next.ensures.corner;
    }

pub returns-clause-corners : goal.returns-clause-corners
returns-clause-corners c = λ i h. c.loop-index.invariant.done i (omega arith) h
