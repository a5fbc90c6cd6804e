use Rattle.std.proofs.Common.{◌-◌, length}
use Rattle.least_walk.proofs.Written.{IsWritten}
use Rattle.polygon_search.specs.Inner.Lasts.{IsUpToLast}
use Rattle.polygon_search.specs.Inner.Search.{LeadsAlong}
use Rattle.polygon_search.specs.Polygon.{penalty_of}
use Rattle.polygon_search.proofs.search.walk_along.Given as goal

-- the vertices so far are written down, and the least walk goes on from this one
abbrev pub invariant-loop-from : goal.invariant-loop-from
invariant-loop-from l =
    let points = l.segments.moments.now in
    let lasts = l.segments.lasts.items in
    record {
      written : IsWritten (length points) (IsUpToLast lasts) (penalty_of points) l.at.items l.from;
      leads : LeadsAlong (length points) (IsUpToLast lasts) (penalty_of points) l.from l.nexts;
    }

abbrev pub decreases-loop-from : goal.decreases-loop-from
decreases-loop-from l = l.size - l.from
