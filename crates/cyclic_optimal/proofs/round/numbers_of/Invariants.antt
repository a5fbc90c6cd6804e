use Rattle.std.proofs.Common.{◌≡◌, take, map}
use Rattle.cyclic_optimal.specs.Inner.Fronts.{lap_of}
use Rattle.cyclic_optimal.proofs.round.numbers_of.Given as goal

abbrev pub invariant-loop-place : goal.invariant-loop-place
invariant-loop-place l = l.numbers.items ≡ map (λ j. lap_of l.size j) (take l.place l.way)
