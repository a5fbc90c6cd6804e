use Rattle.std.proofs.Common.{◌≡◌, length}
use Rattle.polygon_search.specs.Polygon.{penalty_of}
use Rattle.polygon_search.specs.Inner.VertexBounds.{AreBoundsOf}
use Rattle.polygon_search.specs.Inner.Joining.{AreBlank}
use Rattle.polygon_search.proofs.bounds.fill_bounds.Given as goal

-- the windows up to this one are joined
abbrev pub invariant-loop-window : goal.invariant-loop-window
invariant-loop-window l = record {
  places : length l.bounds ≡ length l.fn.bounds;
  bounds : AreBoundsOf l.segments.lasts.items l.begins l.farthest (penalty_of l.segments.moments.now) l.window l.bounds;
  blank : AreBlank l.begins l.farthest l.window l.bounds;
}
