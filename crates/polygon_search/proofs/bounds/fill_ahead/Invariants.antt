use Rattle.std.proofs.Common.{◌+◌, ◌<◌, ◌≤◌, ◌^◌}
use Rattle.polygon_search.specs.Inner.Joining.{AreChanged, IsAheadFound}
use Rattle.polygon_search.proofs.bounds.fill_ahead.Given as goal

abbrev pub invariant-loop-from : goal.invariant-loop-from
invariant-loop-from l = record {
  up : l.fn.first ≤ l.from;
  within : l.from ≤ l.fn.end + 1;
  small : l.least < 2 ^ 56;
  changed : AreChanged (IsAheadFound l.halves l.least) l.fn.first l.from l.fn.bounds l.bounds;
}
