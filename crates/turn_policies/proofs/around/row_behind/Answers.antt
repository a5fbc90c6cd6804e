-- The row's words have the page's pixels, and a row outside the page is white.
use Rattle.std.proofs.Common.{◌≡◌, ◌≤◌, ◌-◌, ◌+◌, ◌%◌, ◌∙◌, ap, sym, arith}
use Rattle.std.proofs.lemmas.Bool.{false_from_ne_true}
use Rattle.bit_image.specs.Page.{image_of}
use Rattle.bit_image.proofs.Bits.{is_one-zero}
use Rattle.bit_image.proofs.Packed.{black_in-bits}
use Rattle.turn_policies.proofs.Square.{in_row, no_row}
use Rattle.turn_policies.proofs.around.row_behind.Goals as goal

pub returns-then-row-height-clause-pixels : goal.returns-then-row-height-clause-pixels
returns-then-row-height-clause-pixels c = λ i p.
    is_one-zero i
    ∙ sym (no_row (image_of c.args.page.now) c.args.x c.args.y i (λ high.
    false_from_ne_true _ (λ black. let at = (c.height.ensures.fits _ _ black).1 in absurd (omega arith))))

pub returns-clause-pixels : goal.returns-clause-pixels
returns-clause-pixels c = λ i p.
    let y = c.args.y in
    let high : 4 ≤ y = omega (arith, c.height.ensures.page.most_height) in
    let row : (y + 4294967292) % 4294967296 ≡ y - 4 = omega arith in
    c.eight.ensures.pixels i p
    ∙ in_row (image_of c.args.page.now) c.row_words.result.now c.args.x y i high
    (λ u. black_in-bits c.row_words.result.now (image_of c.args.page.now) _ c.row_words.ensures.bits u ∙ ap (image_of c.args.page.now u) row)
