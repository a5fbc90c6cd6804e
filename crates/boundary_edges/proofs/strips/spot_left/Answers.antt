use Rattle.std.proofs.Common.{◌+◌, ◌*◌, ◌/◌, ap, sym, ◌∙◌, arith}
use Rattle.boundary_edges.specs.Inner.Blocks.{stands_at}
use Rattle.boundary_edges.proofs.LineSpots.{bit_left}
use Rattle.boundary_edges.proofs.strips.spot_left.Goals as goal

pub returns-then-bit-ne0 : goal.returns-then-bit-ne0
returns-then-bit-ne0 c =
    let moved = bit_left c.args.spot.bit c.args.x (omega (arith, c.if-bit-ne0.true)) (omega arith) c.requires.spot.bit in
    record {
      block = c.requires.spot.block ∙ ap (λ n. (2 * (n * c.args.rows + c.args.y) + 0) / 16) (sym moved.0);
      place = c.requires.spot.place ∙ ap (λ n. stands_at c.args.starts.now (2 * (n * c.args.rows + c.args.y) + 0)) (sym moved.0);
      bit = moved.1;
    }
