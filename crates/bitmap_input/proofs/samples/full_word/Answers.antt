use Rattle.std.proofs.Common.{◌≡◌, ◌+◌, ◌*◌, ◌∙◌, ap, arith}
use Rattle.std.specs.Prelude.{nat_le}
use Rattle.bit_image.specs.Image.{differ}
use Rattle.bitmap_input.specs.Inner.Shading.{bytes_sum}
use Rattle.bitmap_input.proofs.samples.full_word.Goals as goal

pub gray_word-requires : goal.gray_word-requires
gray_word-requires c = let within = rw c.in-Gray.is at c.requires.within in omega (arith, within)

pub color_word-requires-clause-within : goal.color_word-requires-clause-within
color_word-requires-clause-within c = let within = rw c.in-Color.is at c.requires.within in omega (arith, within)

pub returns-in-Gray : goal.returns-in-Gray
returns-in-Gray c = λ k h.
    rw (c.in-Gray.is, c.requires.narrow) (c.inverted.ensures k h ∙ ap (differ c.args.shading.now.invert) (c.gray_word.ensures k h))

pub returns-in-Color : goal.returns-in-Color
returns-in-Color c = λ k h.
    let place : 3 * c.args.from + 3 * k ≡ 3 * (c.args.from + k) = omega arith in
    rw (c.in-Color.is, c.requires.narrow)
    (c.inverted-in-Color.ensures k h ∙ ap (differ c.args.shading.now.invert)
    (c.color_word.ensures k h ∙ ap (λ n. nat_le (bytes_sum c.args.row.now n) c.args.shading.now.limit) place))
