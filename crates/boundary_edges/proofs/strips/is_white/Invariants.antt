use Rattle.std.proofs.Common.{◌≡◌, ℕ, ◌*◌, ◌<◌, false}
use Rattle.bit_image.specs.Inner.Words.{black_in}
use Rattle.boundary_edges.proofs.strips.is_white.Given as goal

abbrev pub invariant-loop-word : goal.invariant-loop-word
invariant-loop-word l = (u : ℕ) → u < 64 * l.word-index → black_in l.row u ≡ false
