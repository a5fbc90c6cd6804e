use Rattle.boundary_edges.proofs.EdgeBits.{place_in_block}
use Rattle.boundary_edges.proofs.strips.block_of.Goals as goal

pub returns : goal.returns
returns c = place_in_block c.args.rows c.args.strip c.args.y c.requires.whole
