use Rattle.std.proofs.Common.{ℕ, ◌+◌, ◌<◌, ◌≤◌, length}
use Rattle.straight_paths.specs.Straight.{IsPossible}
use Rattle.least_walk.specs.Inner.Suffix.{IsFewestFrom}
use Rattle.cyclic_optimal.proofs.first.fewest_among.Given as goal

abbrev pub invariant-loop-start : goal.invariant-loop-start
invariant-loop-start l = (s : ℕ) × (l.low ≤ s) × (s < l.start)
    × IsFewestFrom (s + length l.sides.moments.now) (IsPossible l.sides.moments.now) s l.fewest
