use Rattle.std.proofs.Common.{◌≡◌, ℕ, ◌≤◌, ◌<◌, ◌-◌, ◌&&◌, length, nat_le, true, false}
use Rattle.bit_image.specs.Page.{image_of}
use Rattle.boundary_edges.specs.Inner.BoundaryBits.{has_edge, changes}
use Rattle.boundary_edges.proofs.edges.put_page.Given as goal

abbrev pub invariant-loop-y : goal.invariant-loop-y
invariant-loop-y l =
    record {
      size : length l.words ≡ length l.fn.words;
      rows_so_far : (k u v : ℕ) → k < 2 → v < l.y → has_edge l.rows l.words k u v ≡ changes (image_of l.page) k u v;
      rest : (k u v : ℕ) → k < 2 → l.y ≤ v → has_edge l.rows l.words k u v ≡ false;
      white : l.below_is_white ≡ true → (u : ℕ) → nat_le 4 l.y && image_of l.page u (l.y - 4) ≡ false;
    }
