use Rattle.std.proofs.Common.{◌≡◌, ℕ, ◌<◌, ◌≤◌, length}
use Rattle.std.specs.Prelude.{slice_index}
use Rattle.straight_paths.specs.Straight.{IsFarthest}
use Rattle.polygon_search.specs.Inner.Lasts.{IsLast}
use Rattle.polygon_search.proofs.segments.lasts.Given as goal

-- the first points' numbers are where their longest segments lead, the others are how many steps these have
abbrev pub invariant-loop-i : goal.invariant-loop-i
invariant-loop-i l = record {
  places : length l.lasts.items ≡ length l.points;
  each : (k : ℕ) → k < l.i → IsLast l.points k (slice_index l.lasts.items k);
  left : (k : ℕ) → l.i ≤ k → k < length l.points → IsFarthest l.points k (slice_index l.lasts.items k);
  some : (k : ℕ) → l.i ≤ k → k < length l.points → 1 ≤ slice_index l.lasts.items k;
}
