use Rattle.std.proofs.Common.{◌∙◌, ap, sym}
use Rattle.bit_image.specs.Image.{differ}
use Rattle.bit_image.specs.Words.{is_one}
use Rattle.bitmap_input.proofs.PackedWords.{flipped}
use Rattle.bitmap_input.proofs.words.inverted.Goals as goal

pub returns-then-invert : goal.returns-then-invert
returns-then-invert c = λ k h. flipped c.args.word k h ∙ ap (λ i. differ i (is_one c.args.word k)) (sym c.if-invert.true)

pub returns-else-invert : goal.returns-else-invert
returns-else-invert c = λ k h. ap (λ i. differ i (is_one c.args.word k)) (sym c.if-invert.false)
