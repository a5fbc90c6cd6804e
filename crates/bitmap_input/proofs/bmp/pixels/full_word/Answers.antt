use Rattle.std.proofs.Common.{◌≡◌, ◌+◌, ◌*◌, ◌∙◌, ap, arith}
use Rattle.bitmap_input.specs.Raw.{black}
use Rattle.bitmap_input.specs.BmpRaster.{color_at}
use Rattle.bitmap_input.proofs.bmp.pixels.full_word.Goals as goal

pub colors_word-requires-clause-within : goal.colors_word-requires-clause-within
colors_word-requires-clause-within c = let within = rw c.in-TwentyFour.is at c.requires.within in omega (arith, within)

pub colors_word-requires-in-ThirtyTwo-clause-within : goal.colors_word-requires-in-ThirtyTwo-clause-within
colors_word-requires-in-ThirtyTwo-clause-within c = let within = rw c.in-ThirtyTwo.is at c.requires.within in omega (arith, within)

pub returns-in-TwentyFour : goal.returns-in-TwentyFour
returns-in-TwentyFour c = λ k h.
    let place : 3 * c.args.from + 3 * k ≡ 3 * (c.args.from + k) = omega arith in
    rw c.in-TwentyFour.is (c.colors_word.ensures k h ∙ ap (λ n. black c.args.ink.now.tone.level c.args.ink.now.tone.invert (color_at c.args.row.now n)) place)

pub returns-in-ThirtyTwo : goal.returns-in-ThirtyTwo
returns-in-ThirtyTwo c = λ k h.
    let place : 4 * c.args.from + 4 * k ≡ 4 * (c.args.from + k) = omega arith in
    rw c.in-ThirtyTwo.is (c.colors_word-in-ThirtyTwo.ensures k h ∙ ap (λ n. black c.args.ink.now.tone.level c.args.ink.now.tone.invert (color_at c.args.row.now n)) place)
