use Rattle.std.proofs.Common.{◌-◌, ◌≤◌}
use Rattle.path_cones.specs.Straight.{path_from}
use Rattle.path_cones.specs.Inner.Cones.{IsSound, HoldsNear, IsClear}
use Rattle.path_cones.proofs.first.scan_around.Given as goal

-- the cone is the intersection of those around the points so far, which are in each other's cones
abbrev pub invariant-loop-steps : goal.invariant-loop-steps
invariant-loop-steps l =
    let path = path_from l.track l.first in
    record {
      within : l.steps ≤ l.most;
      sound : IsSound l.cone;
      holds : HoldsNear path l.steps l.cone;
      clear : IsClear path l.steps;
    }

abbrev pub decreases-loop-steps : goal.decreases-loop-steps
decreases-loop-steps l = l.most - l.steps
