use Rattle.std.proofs.Common.{◌≡◌, ◌+◌, ◌*◌, ◌<◌, ℕ, length, get_or}
use Rattle.bitmap_input.specs.Inner.Shading.{bytes_sum}
use Rattle.bitmap_input.proofs.dark.eight_sums.Given as goal

abbrev pub invariant-loop-k : goal.invariant-loop-k
invariant-loop-k l = record {
  room : length l.sums ≡ 8;
  summed : (k : ℕ) → k < l.k → get_or l.sums k 0 ≡ bytes_sum l.row (l.from + l.step * (l.at + k));
}
