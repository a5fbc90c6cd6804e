use Rattle.std.proofs.Common.{◌≡◌}
use Rattle.prefix_moments.specs.Inner.Table.{prefix_of}
use Rattle.prefix_moments.proofs.moments.sums_to.Given as goal

-- the sums so far
abbrev pub invariant-loop-k : goal.invariant-loop-k
invariant-loop-k l = record { now : l.sums ≡ prefix_of l.points l.k }
