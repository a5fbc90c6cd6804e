use Rattle.cyclic_optimal.proofs.Final.{cyclic_cost, least_cyclic}
use Rattle.cyclic_optimal.proofs.first.best_after.Goals as goal

pub returns-clause-least : goal.returns-clause-least
returns-clause-least c =
    let s = c.args.sides.now in
    least_cyclic s.moments.now c.args.point c.last.result c.requires.point c.requires.within
    c.last.ensures.farthest s.few (c.requires.within c.last.result c.last.ensures.reached) c.in_ok-best.best c.in_ok-best.ensures

pub returns-clause-cost : goal.returns-clause-cost
returns-clause-cost c =
    let s = c.args.sides.now in
    cyclic_cost s.moments.now c.args.point c.last.result c.requires.point c.requires.within
    c.last.ensures.farthest s.few (c.requires.within c.last.result c.last.ensures.reached) c.in_ok-best.best c.in_ok-best.ensures
