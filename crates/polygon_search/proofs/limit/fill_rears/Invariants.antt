use Rattle.std.proofs.Common.{◌≡◌, ◌+◌, ◌-◌, length}
use Rattle.polygon_search.proofs.limit.fill_rears.Given as goal

abbrev pub invariant-loop-from : goal.invariant-loop-from
invariant-loop-from l = record { places : length l.rears ≡ length l.fn.rears }

abbrev pub decreases-loop-at : goal.decreases-loop-at
decreases-loop-at l = l.last + 1 - l.at
