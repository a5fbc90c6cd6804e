use Rattle.std.proofs.Common.{ℕ, ◌<◌, length}
use Rattle.straight_paths.specs.Straight.{IsPossible}
use Rattle.cyclic_optimal.proofs.windows.sparsest.Given as goal

abbrev pub invariant-loop-k : goal.invariant-loop-k
invariant-loop-k l = record {
  point : l.sparsest < length l.sides.moments.now;
  within : (j : ℕ) → IsPossible l.sides.moments.now l.sparsest j → j < length l.sides.moments.now;
}
