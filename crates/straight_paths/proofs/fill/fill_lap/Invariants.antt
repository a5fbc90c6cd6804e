use Rattle.straight_paths.specs.Inner.Sweeps.{AreEndsFrom, IsSweep}
use Rattle.straight_paths.proofs.fill.fill_lap.Given as goal

-- the points from the index on are done
abbrev pub invariant-loop-index : goal.invariant-loop-index
invariant-loop-index l = record {
  sweep : IsSweep l.table l.track l.last l.index l.sweep;
  ends : AreEndsFrom l.track l.last l.lap l.index l.steps;
}

abbrev pub decreases-loop-index : goal.decreases-loop-index
decreases-loop-index l = l.index
