use Rattle.path_cones.proofs.Coding.{step_short}
use Rattle.path_cones.proofs.track.Track.step.Goals as goal

pub returns-clause-unit : goal.returns-clause-unit
returns-clause-unit c = step_short c.self.inside.laps c.args.index c.step.result c.self.invariant.closed c.step.ensures
