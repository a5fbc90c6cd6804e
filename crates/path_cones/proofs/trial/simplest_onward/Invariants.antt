use Rattle.path_cones.specs.Inner.Slopes.{AreSmallSlopes}
use Rattle.path_cones.proofs.trial.simplest_onward.Given as goal

abbrev pub invariant-loop : goal.invariant-loop
invariant-loop l = AreSmallSlopes l.slopes
