use Rattle.std.proofs.Common.{◌≡◌, ◌+◌, ◌<◌, ℕ, false, length, get_or}
use Rattle.bitmap_input.specs.Inner.BmpHead.{shade_by}
use Rattle.bitmap_input.proofs.bmp.pixels.word_by_pixels.Given as goal

abbrev pub invariant-loop-i : goal.invariant-loop-i
invariant-loop-i l = record {
  pixels : (k : ℕ) → k < l.i → get_or l.pixels k false ≡ shade_by l.ink l.row (l.from + k);
  room : length l.pixels ≡ 64;
}
