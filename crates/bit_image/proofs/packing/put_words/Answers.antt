-- The whole words are written first, and then the word in which the bytes end.
use Rattle.std.proofs.Common.{length, ◌/◌, length-set, ap, ◌∙◌, arith}
use Rattle.bit_image.specs.Words.{bit_in}
use Rattle.bit_image.proofs.Bytes.{black_in-set_word}
use Rattle.bit_image.proofs.packing.put_words.Goals as goal

pub loop-at-preserved : goal.loop-at-preserved
loop-at-preserved c = λ u p.
    black_in-set_word c.loop-at.row c.loop-at.at c.word_at.result u (bit_in c.args.bytes.now) (omega arith)
    (λ i q. c.word_at.ensures i q ∙ ap (bit_in c.args.bytes.now) (omega arith)) c.loop-at.invariant p

pub returns-then-whole-row-clause-pixels : goal.returns-then-whole-row-clause-pixels
returns-then-whole-row-clause-pixels c = λ u p.
    black_in-set_word c.loop-at.row (length c.args.bytes.now / 8) c.last_word.result u (bit_in c.args.bytes.now) (omega arith)
    (λ i q. c.last_word.ensures i q ∙ ap (bit_in c.args.bytes.now) (omega arith)) (λ v q. c.loop-at.invariant v (omega arith))
    (omega (arith, length-set c.loop-at.row (length c.args.bytes.now / 8) c.last_word.result))
