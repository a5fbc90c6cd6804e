use Rattle.outline_copies.proofs.Vertices.{vertices_moved}
use Rattle.outline_copies.proofs.laws.copies_have_moved_vertices.Goals as goal

pub returns : goal.returns
returns c = vertices_moved
