use Rattle.std.proofs.Common.{◌-◌}
use Rattle.least_walk.proofs.Written.{IsWritten}
use Rattle.least_walk.proofs.walk.walk_by.Given as goal

abbrev pub invariant-loop-from : goal.invariant-loop-from
invariant-loop-from g l =
    let steps = g.S.Steps in
    IsWritten (steps.size_of l.steps) (steps.is_allowed l.steps) (steps.cost_of l.steps) l.at.items l.from

abbrev pub decreases-loop-from : goal.decreases-loop-from
decreases-loop-from g l = l.size - l.from
