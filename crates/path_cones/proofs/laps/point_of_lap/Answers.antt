use Rattle.path_cones.proofs.Cyclic.{lap_at}
use Rattle.path_cones.proofs.laps.point_of_lap.Goals as goal

pub returns : goal.returns
returns c = lap_at c.args.points.now c.args.begin c.args.index c.requires.begin c.requires.after c.requires.before
