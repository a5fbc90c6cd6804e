use Rattle.std.proofs.Common.{ℕ, ◌<◌}
use Rattle.vertex_adjust.specs.Vertex.{IsSegmentOf}
use Rattle.drawing_tests.proofs.tests.segments.is_polygon.Given as goal

abbrev pub invariant-loop-k : goal.invariant-loop-k
invariant-loop-k l = (m : ℕ) → m < l.k → IsSegmentOf l.points l.at m
