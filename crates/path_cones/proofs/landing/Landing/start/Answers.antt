use Rattle.path_cones.proofs.Landings.{start_on}
use Rattle.path_cones.proofs.landing.Landing.start.Goals as goal

pub returns : goal.returns
returns c =
    start_on c.args.track.now c.args.first c.args.most c.args.quarter c.requires.quarter c.requires.some c.requires.stairs
    c.step.result c.step.ensures.value c.is_upright.result c.is_upright.ensures
    c.corner_after.result c.corner_after.ensures.later c.corner_after.ensures.corner c.open.result c.open.ensures
