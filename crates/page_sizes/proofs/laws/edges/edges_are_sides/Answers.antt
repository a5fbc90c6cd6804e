use Rattle.page_sizes.proofs.Counted.{edges_most}
use Rattle.page_sizes.proofs.laws.edges.edges_are_sides.Goals as goal

pub returns : goal.returns
returns c = edges_most
