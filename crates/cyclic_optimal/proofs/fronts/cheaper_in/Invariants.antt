use Rattle.std.proofs.Common.{◌≡◌, ◌+◌, ◌≤◌, length}
use Rattle.cyclic_optimal.specs.Inner.Fronts.{IsInLap, IsLeastVia}
use Rattle.cyclic_optimal.specs.declared.fronts.TheConstants.{NONE}
use Rattle.cyclic_optimal.proofs.fronts.cheaper_in.Given as goal

abbrev pub invariant-loop-j : goal.invariant-loop-j
invariant-loop-j l = record {
  moments : l.segment.moments.now ≡ l.sides.moments.now;
  from : IsInLap (length l.sides.moments.now) l.i l.segment.from;
  to : l.segment.to + l.i + 1 ≡ l.j + l.segment.from;
  least : IsLeastVia l.sides.moments.now l.later.end l.later.left l.i l.j l.cheapest.least;
  most : l.cheapest.least ≤ NONE;
}
