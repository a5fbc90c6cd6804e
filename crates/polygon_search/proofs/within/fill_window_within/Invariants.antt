use Rattle.std.proofs.Common.{◌≡◌, ◌+◌, ◌<◌, ◌≤◌, ◌^◌, length}
use Rattle.std.specs.Prelude.{slice_index}
use Rattle.polygon_search.specs.Inner.BlockLeasts.{AreLeasts, left_at}
use Rattle.polygon_search.specs.Inner.Lasts.{IsUpToLast}
use Rattle.polygon_search.specs.Inner.Within.{AreKeptWithin, HasNextsWithin, IsLeastRest}
use Rattle.polygon_search.specs.Polygon.{penalty_of}
use Rattle.polygon_search.proofs.within.fill_window_within.Given as goal

-- the nearest segment is from a point of the window, and what is known from the point after that
abbrev pub invariant-loop-nearest : goal.invariant-loop-nearest
invariant-loop-nearest l =
    let points = l.segments.moments.now in
    let lasts = l.segments.lasts.items in
    let far = slice_index l.farthest l.window in
    record {
      moments : l.nearest.moments.now ≡ points;
      to : l.nearest.to ≡ slice_index l.begins (l.window + 1);
      near : l.nearest.from ≤ far;
      above : slice_index l.begins l.window ≤ l.nearest.from;
      costs : AreKeptWithin (length points) (IsUpToLast lasts) (penalty_of points) l.bounds l.limit (l.nearest.from + 1) l.costs;
      nexts : HasNextsWithin (length points) (IsUpToLast lasts) (penalty_of points) l.bounds l.limit (l.nearest.from + 1) l.nexts;
      blocks : AreLeasts (left_at l.bounds l.costs) 0 (slice_index l.begins (l.window + 1)) (slice_index lasts l.nearest.from + 1) l.leasts;
      low : l.least < 2 ^ 57;
      rest : IsLeastRest (length points) (IsUpToLast lasts) (penalty_of points) l.bounds l.limit (l.nearest.from + 1) far l.least;
    }

abbrev pub decreases-loop-nearest : goal.decreases-loop-nearest
decreases-loop-nearest l = l.nearest.from
