use Rattle.std.proofs.Common.{◌≡◌, ℕ, ◌*◌, ◌≤◌, ◌<◌, false}
use Rattle.boundary_edges.specs.Inner.BoundaryBits.{has_edge}
use Rattle.boundary_edges.proofs.strips.first_edge.Given as goal

abbrev pub invariant-loop-strip : goal.invariant-loop-strip
invariant-loop-strip l = (u : ℕ) → l.x ≤ u → u < 64 * l.strip → has_edge l.rows l.words 0 u l.y ≡ false
