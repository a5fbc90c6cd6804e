use Rattle.std.proofs.Common.{◌≡◌, ◌+◌}
use Rattle.bit_image.specs.Image.{Image, differ}
use Rattle.turn_policies.specs.Majority.{behind}
use Rattle.turn_policies.proofs.Square.{IsFilledTo}
use Rattle.boundary_edges.specs.Inner.BoundaryBits.{AreEdgesOf}
use Rattle.boundary_edges.proofs.EightPixels.{relative}
use Rattle.boundary_edges.proofs.square.relative_square.Given as goal

abbrev pub invariant-loop-j : goal.invariant-loop-j
invariant-loop-j l =
    record {
      square : (b : Image) → AreEdgesOf b l.rows l.words → IsFilledTo l.j l.pixels (relative b l.x l.y);
      column : (b : Image) → AreEdgesOf b l.rows l.words → l.differs ≡ differ (behind b 4 l.x l.y) (behind b 4 l.x (l.y + l.j));
    }
