use Rattle.std.proofs.Common.{◌≡◌, ℕ, ◌+◌, ◌-◌, ◌<◌, ◌≤◌, ◌^◌, get_or, length}
use Rattle.std.specs.Prelude.{slice_index}
use Rattle.cyclic_optimal.specs.Inner.Fronts.{IsFrontAt, IsFrontOf}
use Rattle.cyclic_optimal.specs.declared.fronts.Front.{Front}
use Rattle.cyclic_optimal.proofs.fronts.fronts_by.Given as goal

abbrev pub invariant-loop-c : goal.invariant-loop-c
invariant-loop-c l = record {
  size : length l.fronts.items ≡ l.front.left;
  each : (left : ℕ) (d : Front) → left < length l.fronts.items
      → IsFrontAt l.sides.moments.now l.end (slice_index l.tops (l.count - left)) left (get_or l.fronts.items left d);
  front : IsFrontOf l.sides.moments.now l.front;
  end : l.front.end ≡ l.end;
  left : l.front.left + l.c ≡ l.count;
  few : l.front.low + length l.front.least.items ≤ 2 ^ 33;
  top : slice_index l.tops l.c < l.front.low + length l.front.least.items;
}
