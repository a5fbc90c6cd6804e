use Rattle.std.proofs.Common.{◌≡◌, length}
use Rattle.cyclic_optimal.proofs.leaps.all_leaps.Given as goal

abbrev pub invariant-loop-left : goal.invariant-loop-left
invariant-loop-left l = record {
  leaps : length l.leaps.items ≡ length l.sides.moments.now;
  power : length l.power.items ≡ length l.sides.moments.now;
}

abbrev pub decreases-loop-left : goal.decreases-loop-left
decreases-loop-left l = l.left
