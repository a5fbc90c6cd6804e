use Rattle.outline_distance.proofs.Between.{edge_passes}
use Rattle.outline_distance.proofs.laws.edges_pass_by_sides.Goals as goal

pub returns : goal.returns
returns c = edge_passes
