use Rattle.std.proofs.Common.{◌≡◌, ℕ, ◌+◌, ◌≤◌, false}
use Rattle.bit_image.specs.Page.{image_of}
use Rattle.boundary_edges.proofs.edges.Edges.first_black.Given as goal

abbrev pub invariant-rows : goal.invariant-rows
invariant-rows l =
    record {
      within : l.end ≤ l.from + 1;
      white : (u v : ℕ) → l.end ≤ v → v ≤ l.from → image_of l.self u v ≡ false;
    }

abbrev pub decreases-rows : goal.decreases-rows
decreases-rows l = l.end
