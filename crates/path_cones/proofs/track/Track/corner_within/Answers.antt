use Rattle.std.proofs.Common.{◌+◌, arith}
use Rattle.path_cones.proofs.Turns.{less_steps}
use Rattle.path_cones.proofs.track.Track.corner_within.Goals as goal

pub returns-then-in_lap-clause-later : goal.returns-then-in_lap-clause-later
returns-then-in_lap-clause-later c = let some = c.next_corner.ensures.some in omega arith

pub returns-then-in_lap-clause-corner : goal.returns-then-in_lap-clause-corner
returns-then-in_lap-clause-corner c =
    less_steps c.args.self.now (c.args.first + c.args.steps) c.args.steps c.next_corner.result c.next_corner.ensures
