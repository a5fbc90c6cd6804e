use Rattle.std.proofs.Common.{◌≡◌, ◌+◌}
use Rattle.polygon_search.specs.Polygon.{penalty_of}
use Rattle.outline_check.specs.Inner.LabelPoints.{IsCheapestBefore}
use Rattle.outline_check.proofs.onward.cheapest_of_many.Given as goal

abbrev pub invariant-loop-label : goal.invariant-loop-label
invariant-loop-label l = record {
  moments : l.segment.moments.now ≡ l.window.segments.now.moments;
  from : l.segment.from ≡ l.window.start.from;
  to : l.segment.to ≡ l.window.begin + l.label-index;
  tried : IsCheapestBefore (penalty_of l.window.segments.now.moments) l.window.labels.now l.window.start.from l.window.begin l.window.last (l.segment.to + 1) l.best;
}
