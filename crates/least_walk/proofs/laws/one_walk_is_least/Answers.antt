use Rattle.least_walk.proofs.OneLeast.{one_least}
use Rattle.least_walk.proofs.laws.one_walk_is_least.Goals as goal

pub returns : goal.returns
returns g c =
    let steps = c.args.steps.now in
    one_least (g.S.Steps.size_of steps) (g.S.Steps.is_allowed steps) (g.S.Steps.cost_of steps)
