use Rattle.std.proofs.Common.{◌≡◌, ◌+◌, map}
use Rattle.std.specs.List.{range_with_len}
use Rattle.curve_join.specs.Inner.Areas.{area_up_to}
use Rattle.curve_join.proofs.runs.areas.Given as goal

abbrev pub invariant-loop-bend : goal.invariant-loop-bend
invariant-loop-bend l = record {
  areas : l.areas.items ≡ map (area_up_to l.bends) (range_with_len 0 (l.bend-index + 1));
  total : l.total ≡ area_up_to l.bends l.bend-index;
}
