use Rattle.std.proofs.Common.{◌≡◌, ℕ, ◌/◌, ◌<◌, false}
use Rattle.boundary_edges.specs.Inner.BoundaryBits.{has_edge}
use Rattle.boundary_edges.proofs.strips.is_white_band.Given as goal

abbrev pub invariant-loop-strip : goal.invariant-loop-strip
invariant-loop-strip l = (u v : ℕ) → u / 64 < l.strip → v / 8 ≡ l.band → has_edge l.rows l.words 0 u v ≡ false
