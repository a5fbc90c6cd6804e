use Rattle.std.proofs.Common.{◌+◌, ◌-◌, length}
use Rattle.cyclic_optimal.proofs.Lowest.{IsSoFar}
use Rattle.cyclic_optimal.proofs.round.first_way.Given as goal

abbrev pub invariant-loop-left : goal.invariant-loop-left
invariant-loop-left l =
    IsSoFar l.sides.moments.now (l.start + length l.sides.moments.now) (length l.fronts - 1) l.start l.worth l.left l.at l.rest l.way.items
