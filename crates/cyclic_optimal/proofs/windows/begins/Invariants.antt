use Rattle.std.proofs.Common.{◌≡◌, length}
use Rattle.cyclic_optimal.proofs.windows.begins.Given as goal

abbrev pub invariant-loop-i : goal.invariant-loop-i
invariant-loop-i l = length l.begins.items ≡ l.i
