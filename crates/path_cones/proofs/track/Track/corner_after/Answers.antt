use Rattle.std.proofs.Common.{◌≡◌, ℕ, ◌+◌, ◌-◌, length, subst, arith}
use Rattle.path_cones.specs.Corners.{IsNextCorner}
use Rattle.path_cones.proofs.Turns.{corner_lap_on, less_steps}
use Rattle.path_cones.proofs.track.Track.corner_after.Goals as goal

pub returns-then-steps-rest-clause-later : goal.returns-then-steps-rest-clause-later
returns-then-steps-rest-clause-later c = let some = c.next_corner.ensures.some in omega arith

pub returns-then-steps-rest-clause-corner : goal.returns-then-steps-rest-clause-corner
returns-then-steps-rest-clause-corner c =
    less_steps c.args.self.now (c.args.first + c.args.steps) c.args.steps c.next_corner.result c.next_corner.ensures

pub returns-else-steps-rest-clause-later : goal.returns-else-steps-rest-clause-later
returns-else-steps-rest-clause-later c = let some = c.next_corner-else-steps-rest.ensures.some in omega arith

pub returns-else-steps-rest-clause-corner : goal.returns-else-steps-rest-clause-corner
returns-else-steps-rest-clause-corner c =
    let points = c.args.self.now in
    let place = c.args.steps - (c.size.result - c.args.first) in
    let d = c.next_corner-else-steps-rest.result in
    let e : place + length points ≡ c.args.first + c.args.steps = omega arith in
    less_steps points (c.args.first + c.args.steps) c.args.steps d
    (subst (λ (i : ℕ). IsNextCorner points i d) e (corner_lap_on points place d c.next_corner-else-steps-rest.ensures))
