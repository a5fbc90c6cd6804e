use Rattle.outline_copies.proofs.Pieces.{pieces_moved}
use Rattle.outline_copies.proofs.laws.moved_vertices_have_moved_pieces.Goals as goal

pub returns : goal.returns
returns c = pieces_moved
