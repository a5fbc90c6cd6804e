use Rattle.page_sizes.proofs.Counted.{points_counted}
use Rattle.page_sizes.proofs.laws.edges.points_are_edges.Goals as goal

pub returns : goal.returns
returns c = points_counted
