use Rattle.path_cones.specs.Inner.Slopes.{IsDescent}
use Rattle.path_cones.proofs.slopes.Slopes.simplest.Given as goal

abbrev pub invariant-loop : goal.invariant-loop
invariant-loop l = IsDescent l.descent
