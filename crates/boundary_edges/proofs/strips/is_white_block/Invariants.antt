use Rattle.std.proofs.Common.{◌≡◌, ℕ, ◌/◌, ◌%◌, ◌<◌, false}
use Rattle.boundary_edges.specs.Inner.BoundaryBits.{has_edge}
use Rattle.boundary_edges.proofs.strips.is_white_block.Given as goal

abbrev pub invariant-loop-i : goal.invariant-loop-i
invariant-loop-i l = (u v : ℕ) → u / 64 ≡ l.strip → v / 8 ≡ l.band → v % 8 < l.i → has_edge l.rows l.words 0 u v ≡ false
