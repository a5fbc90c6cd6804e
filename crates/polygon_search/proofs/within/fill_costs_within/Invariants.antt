use Rattle.std.proofs.Common.{◌<◌, ◌^◌, length}
use Rattle.std.specs.Prelude.{slice_index}
use Rattle.polygon_search.specs.Inner.Lasts.{IsUpToLast}
use Rattle.polygon_search.specs.Inner.Within.{AreKeptWithin, HasNextsWithin, IsLeastRest}
use Rattle.polygon_search.specs.Polygon.{penalty_of}
use Rattle.polygon_search.proofs.within.fill_costs_within.Given as goal

-- what is known from the window on
abbrev pub invariant-loop-window : goal.invariant-loop-window
invariant-loop-window l =
    let points = l.segments.moments.now in
    let lasts = l.segments.lasts.items in
    let begin = slice_index l.begins l.window in
    record {
      costs : AreKeptWithin (length points) (IsUpToLast lasts) (penalty_of points) l.bounds l.limit begin l.costs;
      nexts : HasNextsWithin (length points) (IsUpToLast lasts) (penalty_of points) l.bounds l.limit begin l.nexts;
      low : l.rest < 2 ^ 57;
      rest : IsLeastRest (length points) (IsUpToLast lasts) (penalty_of points) l.bounds l.limit begin (slice_index l.farthest l.window) l.rest;
    }
