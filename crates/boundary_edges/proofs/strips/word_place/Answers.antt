use Rattle.boundary_edges.proofs.EdgeBits.{place_inside}
use Rattle.boundary_edges.proofs.strips.word_place.Goals as goal

pub returns-clause-inside : goal.returns-clause-inside
returns-clause-inside c = λ size room. place_inside c.args.rows c.args.strip c.args.y c.args.kind size c.requires.y c.requires.kind room
