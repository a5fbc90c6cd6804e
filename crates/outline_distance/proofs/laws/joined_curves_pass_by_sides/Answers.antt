use Rattle.outline_distance.proofs.Touching.{touches_sides}
use Rattle.outline_distance.proofs.laws.joined_curves_pass_by_sides.Goals as goal

pub returns : goal.returns
returns c = touches_sides
