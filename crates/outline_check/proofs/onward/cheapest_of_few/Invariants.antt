use Rattle.std.proofs.Common.{◌≤◌}
use Rattle.polygon_search.specs.Polygon.{penalty_of}
use Rattle.outline_check.specs.Inner.LabelPoints.{IsCheapestBefore}
use Rattle.outline_check.proofs.onward.cheapest_of_few.Given as goal

abbrev pub invariant-loop-k : goal.invariant-loop-k
invariant-loop-k l = record {
  least : l.best.cost ≤ l.fn.tried.cost;
  tried : IsCheapestBefore (penalty_of l.window.segments.now.moments) l.window.labels.now l.window.start.from l.window.begin l.window.last l.k l.best;
}
