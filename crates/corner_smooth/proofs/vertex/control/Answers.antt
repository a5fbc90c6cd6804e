use Rattle.corner_smooth.proofs.Fitting.{reach_passed}
use Rattle.corner_smooth.proofs.vertex.control.Goals as goal

-- the numbers are passed as they are
pub part-requires-clause-from : goal.part-requires-clause-from
part-requires-clause-from c = reach_passed c.args.neighbour.x c.requires.neighbour.x

pub part-requires-clause-to : goal.part-requires-clause-to
part-requires-clause-to c = reach_passed c.args.at.x c.requires.at.x

pub part-requires-2-clause-from : goal.part-requires-2-clause-from
part-requires-2-clause-from c = reach_passed c.args.neighbour.y c.requires.neighbour.y

pub part-requires-2-clause-to : goal.part-requires-2-clause-to
part-requires-2-clause-to c = reach_passed c.args.at.y c.requires.at.y

pub returns-clause-near : goal.returns-clause-near
returns-clause-near c = record { x = reach_passed c.part.result c.part.ensures.reach; y = reach_passed c.part-2.result c.part-2.ensures.reach }
