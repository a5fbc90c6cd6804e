use Rattle.path_cones.proofs.Cyclic.{listed}
use Rattle.path_cones.proofs.laps.Laps.in_lap.Goals as goal

pub returns : goal.returns
returns c = listed c.self.inside.points.now c.args.self.now c.args.index c.self.view_is c.requires
