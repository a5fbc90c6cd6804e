use Rattle.std.proofs.Common.{◌≡◌, ◌≢◌, ◌-◌, ◌≤◌, length, rules, arith}
use Rattle.path_cones.proofs.Turns.{no_lap_straight, on_more, first_found, same_steps, other_steps}
use Rattle.path_cones.proofs.corners.first_corner.Goals as goal

pub returns-then-not-is_same : goal.returns-then-not-is_same
returns-then-not-is_same c =
    let d = c.loop-steps.steps in
    let other : c.step.result ≢ c.step-in-loop-steps.result = search rules in
    first_found c.args.laps.now d (omega arith) c.loop-steps.invariant
    (other_steps c.args.laps.now (d - 1) d _ _ c.step.ensures c.step-in-loop-steps.ensures other)

pub loop-steps-preserved : goal.loop-steps-preserved
loop-steps-preserved c =
    let d = c.loop-steps.steps in
    let same : c.step.result ≡ c.step-in-loop-steps.result = search rules in
    on_more c.args.laps.now d c.loop-steps.invariant
    (same_steps c.args.laps.now (d - 1) d _ _ c.step.ensures c.step-in-loop-steps.ensures same)

pub unreachable-requires : goal.unreachable-requires
unreachable-requires c =
    let l = no_lap_straight c.args.laps.now 0 c.loop-steps.steps c.requires.closed c.loop-steps.invariant in
    let m : length c.args.laps.now ≤ c.loop-steps.steps = omega arith in
    omega (arith, l, m)
