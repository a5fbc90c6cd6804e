use Rattle.outline_distance.proofs.Between.{side_near_edge}
use Rattle.outline_distance.proofs.laws.places_of_sides_are_close_to_edges.Goals as goal

pub returns : goal.returns
returns c = side_near_edge
