use Rattle.std.proofs.Common.{arith}
use Rattle.path_cones.proofs.Ends.{one_beyond}
use Rattle.straight_paths.proofs.fill.steps_beyond.Goals as goal

pub returns-clause-enough : goal.returns-clause-enough
returns-clause-enough c =
    one_beyond c.args.track.now c.limit-limit.result c.clear_steps.result.steps c.min.result c.limit-limit.ensures.value (omega arith) c.clear_steps.ensures.steps
