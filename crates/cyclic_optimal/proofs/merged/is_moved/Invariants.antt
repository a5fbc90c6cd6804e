use Rattle.std.proofs.Common.{◌≡◌, ℕ, ◌+◌, ◌<◌, slice_index}
use Rattle.cyclic_optimal.specs.declared.fronts.TheConstants.{MOST}
use Rattle.cyclic_optimal.proofs.merged.is_moved.Given as goal

abbrev pub invariant-loop-k : goal.invariant-loop-k
invariant-loop-k l = (j : ℕ) → j < l.k → (slice_index l.front.least.items j < MOST) × (slice_index l.other.least.items j < MOST)
    × (slice_index l.front.least.items j + slice_index l.other.least.items 0 ≡ slice_index l.other.least.items j + slice_index l.front.least.items 0)
