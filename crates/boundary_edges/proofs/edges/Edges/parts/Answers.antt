use Rattle.boundary_edges.proofs.Bounded.{laid_out}
use Rattle.boundary_edges.proofs.edges.Edges.parts.Goals as goal

pub returns : goal.returns
returns c = laid_out _ _ _ _ _ c.args.self.now _ _ c.self.invariant c.self.view_is c.parts.ensures.whole c.parts.ensures.same
