use Rattle.std.proofs.Common.{◌≡◌, ◌+◌, ◌<◌, ℕ, false, length, get_or}
use Rattle.std.specs.Prelude.{nat_le}
use Rattle.bitmap_input.proofs.dark.test_eight.Given as goal

abbrev pub invariant-loop-k : goal.invariant-loop-k
invariant-loop-k l = record {
  room : length l.dark ≡ 64;
  before : (k : ℕ) → k < l.at → get_or l.dark k false ≡ get_or l.fn.dark k false;
  tested : (k : ℕ) → k < l.k → get_or l.dark (l.at + k) false ≡ nat_le (get_or l.sums k 0) l.limit;
}
