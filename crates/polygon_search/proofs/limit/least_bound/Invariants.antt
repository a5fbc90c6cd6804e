use Rattle.std.proofs.Common.{◌<◌}
use Rattle.polygon_search.proofs.limit.least_bound.Given as goal

abbrev pub invariant-loop-k : goal.invariant-loop-k
invariant-loop-k l = record { inside : l.best < l.fn.high }
