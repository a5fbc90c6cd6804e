use Rattle.std.proofs.Common.{ℕ, ◌+◌, ◌<◌, ◌≤◌}
use Rattle.std.specs.Prelude.{slice_index}
use Rattle.polygon_search.specs.Polygon.{penalty_of}
use Rattle.polygon_search.specs.Inner.VertexBounds.{bound_at}
use Rattle.polygon_search.specs.Inner.Joining.{AreChanged, IsFloorChange}
use Rattle.polygon_search.proofs.bounds.join_by_segments.Given as goal

-- no floor is above what a polygon pays that comes there from one of the window's first vertices
abbrev pub invariant-loop-from : goal.invariant-loop-from
invariant-loop-from l = record {
  up : slice_index l.begins l.window ≤ l.from;
  changed : AreChanged (λ k. IsFloorChange) (slice_index l.begins (l.window + 1)) (slice_index l.farthest (l.window + 1) + 1) l.fn.bounds l.bounds;
  floors : (i j : ℕ) → slice_index l.begins l.window ≤ i → i < l.from → slice_index l.begins (l.window + 1) ≤ j
      → j ≤ slice_index l.segments.lasts.items i
      → (bound_at l.bounds j).floor ≤ (bound_at l.fn.bounds i).floor + penalty_of l.segments.moments.now i j;
}
