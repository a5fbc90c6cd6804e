use Rattle.std.proofs.Common.{◌≡◌, length}
use Rattle.cyclic_optimal.proofs.leaps.nexts.Given as goal

abbrev pub invariant-loop-i : goal.invariant-loop-i
invariant-loop-i l = length l.nexts.items ≡ l.i
