use Rattle.std.proofs.Common.{◌+◌, ◌≤◌}
use Rattle.polygon_search.specs.Inner.Joining.{AreChanged, IsFloorChange}
use Rattle.polygon_search.proofs.bounds.raise_floors.Given as goal

abbrev pub invariant-loop-to : goal.invariant-loop-to
invariant-loop-to l = record {
  up : l.fn.begin ≤ l.to;
  within : l.to ≤ l.fn.last + 1;
  changed : AreChanged (λ k. IsFloorChange) l.fn.begin l.to l.fn.bounds l.bounds;
}
