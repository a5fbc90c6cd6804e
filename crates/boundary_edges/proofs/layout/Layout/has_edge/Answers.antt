use Rattle.std.proofs.Common.{arith}
use Rattle.boundary_edges.proofs.CornerSpots.{edge_read}
use Rattle.boundary_edges.proofs.layout.Layout.has_edge.Goals as goal

pub returns : goal.returns
returns c =
    edge_read c.args.self.now.page.now c.args.self.now.rows c.args.self.now.starts.now c.args.self.now.words.now c.args.x c.args.y c.args.kind c.args.spot
    c.args.self.now.laid c.requires.y c.requires.spot c.requires.kind (omega arith)
