-- One word of the row has all eight pixels.
use Rattle.std.proofs.Common.{◌-◌, ◌∙◌}
use Rattle.bit_image.specs.Page.{image_of}
use Rattle.bit_image.proofs.Packed.{black_in-bits}
use Rattle.turn_policies.proofs.Square.{eight_within, in_page}
use Rattle.turn_policies.proofs.around.inner_row.Goals as goal

pub returns-clause-pixels : goal.returns-clause-pixels
returns-clause-pixels c = λ i p.
    let x = c.args.x in
    let row = c.row_words.result.now in
    eight_within row (x - 4) i p c.requires.word
    ∙ in_page (image_of c.args.page.now) row x c.args.y i c.requires.left c.requires.low
    (λ u. black_in-bits row (image_of c.args.page.now) _ c.row_words.ensures.bits u)
