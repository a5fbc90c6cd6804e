use Rattle.std.proofs.Common.{◌≡◌, ℕ, ◌+◌, ◌-◌, ◌<◌, ◌≤◌, length}
use Rattle.std.specs.Prelude.{slice_index}
use Rattle.straight_paths.proofs.reach.move_on.Given as goal

-- the places from here on are done, and the ones before are as they were
abbrev pub invariant-loop-place : goal.invariant-loop-place
invariant-loop-place l = record {
  places : length l.steps ≡ length l.fn.steps;
  first : 1 ≤ l.place;
  done : (k : ℕ) → l.place ≤ k + 1 → k + 1 < length l.fn.steps → slice_index l.steps (k + 1) ≡ slice_index l.fn.steps k - 2;
  same : (k : ℕ) → k < l.place → slice_index l.steps k ≡ slice_index l.fn.steps k;
}
