use Rattle.std.proofs.Common.{◌≡◌, ◌+◌, ◌<◌, ℕ, false, length, get_or}
use Rattle.bitmap_input.specs.Samples.{is_wide}
use Rattle.bitmap_input.specs.Inner.Shading.{black_in_bytes}
use Rattle.bitmap_input.proofs.samples.word_by_pixels.Given as goal

abbrev pub invariant-loop-i : goal.invariant-loop-i
invariant-loop-i l = record {
  pixels : (k : ℕ) → k < l.i → get_or l.pixels k false ≡ black_in_bytes l.shading l.row (l.from + k);
  room : length l.pixels ≡ 64;
  wide : l.wide ≡ is_wide l.shading.maxval;
}
