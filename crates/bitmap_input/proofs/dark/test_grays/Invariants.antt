use Rattle.std.proofs.Common.{◌≡◌, ◌+◌, ◌<◌, ℕ, false, length, get_or}
use Rattle.std.specs.Prelude.{nat_le}
use Rattle.bitmap_input.proofs.dark.test_grays.Given as goal

abbrev pub invariant-loop-i : goal.invariant-loop-i
invariant-loop-i l = record {
  room : length l.dark ≡ 64;
  tested : (k : ℕ) → k < l.i → get_or l.dark k false ≡ nat_le (get_or l.row (l.from + k) 0) l.limit;
}
