use Rattle.std.proofs.Common.{◌-◌, ◌≤◌}
use Rattle.path_cones.specs.Straight.{path_from}
use Rattle.path_cones.specs.Inner.Strips.{AreUpTo, IsExtent}
use Rattle.path_cones.proofs.trial.strip_by_extent.Given as goal

-- the extent is that of the steps so far
abbrev pub invariant-loop-steps : goal.invariant-loop-steps
invariant-loop-steps l = record {
  within : l.steps ≤ l.most;
  extent : IsExtent l.quarter l.way (path_from l.track l.first) l.steps l.extent;
  ends : AreUpTo l.most l.ends;
}

abbrev pub decreases-loop-steps : goal.decreases-loop-steps
decreases-loop-steps l = l.most - l.steps
