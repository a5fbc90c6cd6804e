use Rattle.path_cones.proofs.Sooner.{ahead_earlier}
use Rattle.path_cones.proofs.tail.Ahead.earlier.Goals as goal

pub returns-clause-ahead : goal.returns-clause-ahead
returns-clause-ahead c =
    ahead_earlier c.args.track.now c.step.ensures.closed c.args.index c.args.self c.sooner.result c.step.result
    c.step.ensures.value c.sooner.ensures c.requires.later
