use Rattle.std.proofs.Common.{◌≡◌, ◌≢◌, ℕ, ◌/◌, ◌≤◌, ◌<◌, ◌∷◌, false, length, get_or}
use Rattle.boundary_edges.specs.Inner.BoundaryBits.{has_edge, changes_in}
use Rattle.boundary_edges.proofs.strips.put_row.Given as goal

abbrev pub invariant-loop-strip : goal.invariant-loop-strip
invariant-loop-strip l =
    record {
      size : length l.words ≡ length l.fn.words;
      left : l.before.0 ≡ get_or (0 ∷ l.below) l.strip 0;
      left_above : l.before.1 ≡ get_or (0 ∷ l.above) l.strip 0;
      row : (k u : ℕ) → k < 2 → u / 64 < l.strip → has_edge l.rows l.words k u l.y ≡ changes_in l.below l.above k u;
      rest : (k u : ℕ) → k < 2 → l.strip ≤ u / 64 → has_edge l.rows l.words k u l.y ≡ false;
      others : (k u v : ℕ) → k < 2 → v ≢ l.y → has_edge l.rows l.words k u v ≡ has_edge l.rows l.fn.words k u v;
    }
