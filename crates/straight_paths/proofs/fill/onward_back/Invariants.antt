use Rattle.std.proofs.Common.{◌≡◌, ◌+◌, ◌^◌, ◌≤◌, unsigned_abs}
use Rattle.pt_core.specs.ClosedWalk.{point_at}
use Rattle.path_cones.specs.Inner.Cones.{to_left_of, rise_of}
use Rattle.path_cones.specs.Inner.Strips.{seen_of, with_across}
use Rattle.straight_paths.specs.Inner.Sweeps.{AreEndsFrom, IsSeen}
use Rattle.path_cones.specs.Inner.Tails.{limit_of, with_onward}
use Rattle.path_cones.specs.Inner.Wedges.{diagonal_of}
use Rattle.straight_paths.proofs.Runs.{seen_by}
use Rattle.straight_paths.proofs.fill.onward_back.Given as goal

-- the points from the index on are done
abbrev pub invariant-loop-index : goal.invariant-loop-index
invariant-loop-index l = record {
  index : l.index ≤ l.from;
  within : l.tail.end ≤ l.index + limit_of l.track;
  there : l.there ≡ point_at l.track l.index;
  far : l.far ≡ rise_of (diagonal_of l.start.quarter) l.there;
  lane : l.lane.here ≡ rise_of (to_left_of l.start.way) l.there;
  lane_most : unsigned_abs l.lane.here ≤ 2 ^ 48;
  seen : IsSeen l.track l.last l.index (seen_by (with_across l.start (seen_of l.lane)) l.tail.end (with_onward l.start.quarter l.tail.ahead l.onward));
  ends : AreEndsFrom l.track l.last l.lap l.index l.steps;
}

abbrev pub decreases-loop-index : goal.decreases-loop-index
decreases-loop-index l = l.index
