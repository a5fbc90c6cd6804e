use Rattle.std.proofs.Common.{arith}
use Rattle.boundary_edges.proofs.EdgeTaken.{edge_taken}
use Rattle.boundary_edges.proofs.strips.take_edge.Goals as goal

pub returns : goal.returns
returns c = λ rows x y starts has is small blocks.
    edge_taken rows starts c.args.words.now c.args.kind x y c.args.spot has is small (omega arith) blocks
