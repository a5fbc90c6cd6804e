use Rattle.outline_copies.proofs.Joins.{joins_moved}
use Rattle.outline_copies.proofs.laws.moved_outlines_have_moved_joins.Goals as goal

pub returns : goal.returns
returns c = λ right up tol vertices pieces joined one_each best. joins_moved right up tol vertices pieces one_each joined best
