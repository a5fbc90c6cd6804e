use Rattle.std.proofs.Common.{◌≡◌, ◌+◌, ◌≤◌}
use Rattle.std.specs.Prelude.{slice_index}
use Rattle.polygon_search.specs.Polygon.{penalty_of}
use Rattle.polygon_search.specs.Inner.VertexBounds.{bound_at}
use Rattle.polygon_search.specs.Inner.Joining.{AreChanged, IsLowered}
use Rattle.polygon_search.proofs.bounds.lower_floors.Given as goal

-- the floors of the segment's end and of the points before it are lowered
abbrev pub invariant-loop-to : goal.invariant-loop-to
invariant-loop-to l = record {
  moments : l.segment.moments.now ≡ l.segments.moments.now;
  from : l.segment.from ≡ l.from;
  to : l.segment.to + 1 ≡ l.to;
  up : l.begin + 1 ≤ l.to;
  within : l.to ≤ slice_index l.segments.lasts.items l.from + 1;
  changed : AreChanged (λ k. IsLowered (bound_at l.fn.bounds l.from).floor (penalty_of l.segments.moments.now l.from k)) l.begin l.to l.fn.bounds l.bounds;
}
