use Rattle.std.proofs.Common.{ℕ, ◌-◌, ◌<◌, ◌≤◌, length, slice_index}
use Rattle.cyclic_optimal.proofs.round.crossing.Given as goal

abbrev pub invariant-loop-place : goal.invariant-loop-place
invariant-loop-place l = record {
  most : l.place ≤ length l.way;
  before : (k : ℕ) → k < l.place → slice_index l.way k < l.size;
}

abbrev pub decreases-loop-place : goal.decreases-loop-place
decreases-loop-place l = length l.way - l.place
