use Rattle.std.proofs.Common.{◌≡◌, ℕ, ◌<◌, length, slice_index}
use Rattle.cyclic_optimal.specs.Inner.Fronts.{IsMovedTo}
use Rattle.cyclic_optimal.proofs.merged.moved.Given as goal

abbrev pub invariant-loop-k : goal.invariant-loop-k
invariant-loop-k l = record {
  places : length l.least.items ≡ l.k;
  each : (j : ℕ) → j < l.k
      → IsMovedTo (slice_index l.later.least.items 0) (slice_index l.other.least.items 0) (slice_index l.before.least.items j) (slice_index l.least.items j);
}
