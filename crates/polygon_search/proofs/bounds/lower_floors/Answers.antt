use Rattle.std.proofs.Common.{ℕ, ◌+◌, ap, ◌∙◌, arith}
use Rattle.polygon_search.specs.Inner.VertexBounds.{bound_at}
use Rattle.polygon_search.specs.Inner.Joining.{IsLowered}
use Rattle.polygon_search.specs.Polygon.{penalty_of}
use Rattle.polygon_search.proofs.Counting.{last_of}
use Rattle.polygon_search.proofs.Joining.{changed_both}
use Rattle.polygon_search.proofs.bounds.lower_floors.Goals as goal

pub loop-to-preserved : goal.loop-to-preserved
loop-to-preserved c =
    let s = c.args.segments.now in
    let points = s.moments.now in
    let from : ℕ = c.args.from in
    let to : ℕ = c.loop-to.to in
    let so_far = c.loop-to.invariant in
    let is = c.longer-segment.ensures in
    let moments = is.moments ∙ so_far.moments in
    let start = is.from ∙ so_far.from in
    let here = is.to ∙ so_far.to in
    let step = rw (moments, start, here) at c.lower_floor-in-loop-to.ensures in
    let last = last_of s.lasts.items from c.index-last.result.now (omega (arith, s.places, c.requires.start)) c.index-last.ensures in
    record {
      moments = moments;
      from = start;
      to = ap (λ n. n + 1) here;
      up = omega (arith, so_far.up);
      within = omega (arith, c.loop-to-test.true, last);
      changed = changed_both (λ k. IsLowered (bound_at c.args.bounds.now from).floor (penalty_of points from k)) c.args.begin to (to + 1)
          c.args.bounds.now c.loop-to.bounds _ (omega (arith, so_far.up)) (omega arith) so_far.changed step;
    }
