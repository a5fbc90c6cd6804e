use Rattle.std.proofs.Common.{◌≡◌, ◌+◌, ◌≤◌, length}
use Rattle.std.specs.Prelude.{slice_index}
use Rattle.least_walk.specs.Inner.Suffix.{HasNexts}
use Rattle.polygon_search.specs.Inner.Lasts.{IsUpToLast}
use Rattle.polygon_search.specs.Polygon.{penalty_of}
use Rattle.polygon_search.specs.Inner.Search.{AreKept}
use Rattle.polygon_search.proofs.search.fill_window.Given as goal

-- the nearest segment is from a point of the window, and what is known from the point after that
abbrev pub invariant-points : goal.invariant-points
invariant-points l =
    let points = l.segments.moments.now in
    let lasts = l.segments.lasts.items in
    record {
      moments : l.nearest.moments.now ≡ points;
      to : l.nearest.to ≡ l.begin;
      near : l.nearest.from ≤ slice_index l.farthest l.window;
      reaches : l.begin ≤ slice_index lasts l.nearest.from;
      costs : AreKept (length points) (IsUpToLast lasts) (penalty_of points) (l.nearest.from + 1) l.costs;
      nexts : HasNexts (length points) (IsUpToLast lasts) (penalty_of points) (l.nearest.from + 1) l.nexts;
    }

abbrev pub decreases-points : goal.decreases-points
decreases-points l = l.nearest.from
