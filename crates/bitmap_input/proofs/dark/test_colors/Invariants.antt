use Rattle.std.proofs.Common.{◌≡◌, ◌+◌, ◌*◌, ◌<◌, ℕ, false, length, get_or}
use Rattle.std.specs.Prelude.{nat_le}
use Rattle.bitmap_input.specs.Inner.Shading.{bytes_sum}
use Rattle.bitmap_input.proofs.dark.test_colors.Given as goal

abbrev pub invariant-loop-j : goal.invariant-loop-j
invariant-loop-j l = record {
  room : length l.dark ≡ 64;
  tested : (k : ℕ) → k < 8 * l.j → get_or l.dark k false ≡ nat_le (bytes_sum l.row (l.from + l.step * k)) l.limit;
}
