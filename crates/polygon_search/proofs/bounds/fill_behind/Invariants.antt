use Rattle.std.proofs.Common.{◌+◌, ◌≤◌}
use Rattle.polygon_search.specs.Inner.Joining.{AreChanged, IsBehindFound}
use Rattle.polygon_search.proofs.bounds.fill_behind.Given as goal

abbrev pub invariant-loop-to : goal.invariant-loop-to
invariant-loop-to l = record {
  up : l.fn.begin ≤ l.to;
  within : l.to ≤ l.fn.last + 1;
  changed : AreChanged (IsBehindFound l.halves l.paid) l.fn.begin l.to l.fn.bounds l.bounds;
}
