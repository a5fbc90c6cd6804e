use Rattle.std.proofs.Common.{length}
use Rattle.least_walk.specs.Inner.Suffix.{HasNexts}
use Rattle.polygon_search.specs.Inner.Lasts.{IsUpToLast}
use Rattle.polygon_search.specs.Polygon.{penalty_of}
use Rattle.polygon_search.specs.Inner.Search.{AreKept, BeginsWindow, counts_of}
use Rattle.polygon_search.proofs.search.fill_costs.Given as goal

-- what is known from the window on, which begins here
abbrev pub invariant-loop-window : goal.invariant-loop-window
invariant-loop-window l =
    let points = l.segments.moments.now in
    let lasts = l.segments.lasts.items in
    record {
      begin : BeginsWindow (length points) (counts_of (length points) lasts) l.window l.begin;
      costs : AreKept (length points) (IsUpToLast lasts) (penalty_of points) l.begin l.costs;
      nexts : HasNexts (length points) (IsUpToLast lasts) (penalty_of points) l.begin l.nexts;
    }
