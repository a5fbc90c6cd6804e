use Rattle.path_cones.proofs.Turns.{IsStraightOn}
use Rattle.path_cones.proofs.corners.first_corner.Given as goal

abbrev pub invariant-loop-steps : goal.invariant-loop-steps
invariant-loop-steps l = IsStraightOn l.laps 0 l.steps
