use Rattle.std.proofs.Common.{◌-◌}
use Rattle.cyclic_optimal.proofs.leaps.next_from.Given as goal

abbrev pub decreases-loop-next : goal.decreases-loop-next
decreases-loop-next l = l.goal - l.next
