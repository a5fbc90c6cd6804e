-- What a value keeps, seen from outside.
use Rattle.bit_image.proofs.Pages.{Fits-page}
use Rattle.boundary_edges.proofs.Bounded.{self_page}
use Rattle.boundary_edges.proofs.edges.Edges.width.Goals as goal

pub returns-clause-page : goal.returns-clause-page
returns-clause-page c = self_page _ _ _ _ _ c.args.self.now c.self.invariant c.self.view_is

pub returns-clause-fits : goal.returns-clause-fits
returns-clause-fits c = Fits-page c.args.self.now (returns-clause-page c)
