use Rattle.std.proofs.Common.{◌≡◌, ℕ, ◌<◌, length, get_or}
use Rattle.bitmap_input.specs.Raw.{black}
use Rattle.bitmap_input.specs.Raw.Entry.{Color}
use Rattle.bitmap_input.specs.BmpRaster.{palette_color}
use Rattle.bitmap_input.proofs.bmp.palette.fill_table.Given as goal

abbrev pub invariant-loop-i : goal.invariant-loop-i
invariant-loop-i l = record {
  filled : (k : ℕ) → k < l.i → get_or l.table k (black l.tone.level l.tone.invert (Color 0 0 0)) ≡ black l.tone.level l.tone.invert (palette_color l.colors l.size l.palette k);
  room : length l.table ≡ 256;
}
