use Rattle.std.proofs.Common.{◌≡◌, ℕ, ◌<◌, length, get_or}
use Rattle.bitmap_input.specs.Samples.{samples}
use Rattle.bitmap_input.proofs.gray_rows.unpack.Given as goal

abbrev pub invariant-loop-x : goal.invariant-loop-x
invariant-loop-x l = record {
  room : length l.row ≡ length l.fn.row;
  value : (k : ℕ) → k < l.x → get_or l.row k 0 ≡ get_or (samples l.wide l.line) k 0;
}
