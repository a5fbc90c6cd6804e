use Rattle.std.proofs.Common.{◌≡◌, length}
use Rattle.std.specs.List.{All}
use Rattle.corner_smooth.specs.Corner.{IsNearWidePage}
use Rattle.drawing_tests.proofs.tests.samples.points_at.Given as goal

abbrev pub invariant-loop-x : goal.invariant-loop-x
invariant-loop-x l = record {
  near : All IsNearWidePage l.points.items;
  one_each : length l.points.items ≡ l.x-index;
}
