use Rattle.std.proofs.Common.{◌∙◌, get_or, ap}
use Rattle.boundary_edges.proofs.EdgeBits.{has_edge-read}
use Rattle.boundary_edges.proofs.strips.has_edge.Goals as goal

pub returns : goal.returns
returns c = has_edge-read c.args.rows c.args.words.now c.args.kind c.args.x c.args.y c.get.result c.requires.y (c.get.ensures ∙ ap (λ n. get_or c.args.words.now n 0) c.word_place.ensures.value)
