use Rattle.std.proofs.Common.{◌≤◌}
use Rattle.straight_paths.specs.Inner.Sweeps.{AreEndsFrom, IsSeen}
use Rattle.straight_paths.proofs.fill.held_by_steps.Given as goal

-- the points from the index on are done
abbrev pub invariant-loop-hold : goal.invariant-loop-hold
invariant-loop-hold l = record {
  index : l.hold.index ≤ l.fn.start.index;
  seen : IsSeen l.track l.last l.hold.index l.hold.seen;
  ends : AreEndsFrom l.track l.last l.lap l.hold.index l.steps;
}

abbrev pub decreases-loop-hold : goal.decreases-loop-hold
decreases-loop-hold l = l.hold.index
