use Rattle.std.proofs.Common.{◌≡◌, length}
use Rattle.cyclic_optimal.proofs.leaps.joined.Given as goal

abbrev pub invariant-loop-i : goal.invariant-loop-i
invariant-loop-i l = length l.joined.items ≡ l.i
