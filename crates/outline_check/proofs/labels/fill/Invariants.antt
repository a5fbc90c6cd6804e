use Rattle.std.proofs.Common.{◌<◌, length}
use Rattle.polygon_search.specs.Inner.Lasts.{IsUpToLast}
use Rattle.polygon_search.specs.Polygon.{penalty_of}
use Rattle.outline_check.specs.Inner.Known.{AreRightDownTo, IsWindowBegin}
use Rattle.outline_check.proofs.labels.fill.Given as goal

-- the labels from the point on are right, and its window begins here
abbrev pub invariant-loop-from : goal.invariant-loop-from
invariant-loop-from l =
    let points = l.segments.moments in
    record {
      known : AreRightDownTo (length points) (IsUpToLast l.segments.lasts.items) (penalty_of points) l.from l.labels;
      begin : l.from < length points → IsWindowBegin (length points) l.segments.lasts.items l.labels l.from l.stage.begin;
    }
