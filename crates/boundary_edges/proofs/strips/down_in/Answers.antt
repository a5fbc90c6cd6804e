use Rattle.std.proofs.Common.{◌∙◌, length, get_or, ap, arith}
use Rattle.boundary_edges.proofs.EdgeBits.{place_inside}
use Rattle.boundary_edges.proofs.strips.down_in.Goals as goal

pub get_in-requires-clause-block : goal.get_in-requires-clause-block
get_in-requires-clause-block c =
    omega (arith, c.block_of.ensures, place_inside c.args.rows c.args.strip c.args.y 0 (length c.args.words.now) c.requires.y (omega arith) c.requires.room)

pub returns : goal.returns
returns c = c.get_in.ensures ∙ ap (λ n. get_or c.args.words.now n 0) c.block_of.ensures
