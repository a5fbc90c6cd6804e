use Rattle.std.proofs.Common.{◌*◌, false, get_or}
use Rattle.bitmap_input.proofs.PackedWords.{HasFirst}
use Rattle.bitmap_input.proofs.words.word_of.Given as goal

abbrev pub invariant-loop-j : goal.invariant-loop-j
invariant-loop-j l = HasFirst (λ k. get_or l.pixels k false) l.word (8 * l.j)
