-- One word has all eight, or two have some each.
use Rattle.std.proofs.Common.{◌∙◌, get_or, ap, arith}
use Rattle.boundary_edges.proofs.EdgeBits.{eight_within, eight_over}
use Rattle.boundary_edges.proofs.strips.eight.Goals as goal

pub returns-then-x-le56 : goal.returns-then-x-le56
returns-then-x-le56 c = λ i p.
    eight_within c.args.rows c.args.words.now c.args.x c.args.y c.get.result i c.requires.y p (omega arith) (c.get.ensures ∙ ap (λ n. get_or c.args.words.now n 0) c.word_place.ensures.value)

pub returns-else-x-le56 : goal.returns-else-x-le56
returns-else-x-le56 c = λ i p.
    eight_over c.args.rows c.args.words.now c.args.x c.args.y c.get.result c.get-else-x-le56.result i c.requires.y p (omega arith) (omega arith)
    (c.get.ensures ∙ ap (λ n. get_or c.args.words.now n 0) c.word_place.ensures.value)
    (c.get-else-x-le56.ensures ∙ ap (λ n. get_or c.args.words.now n 0) c.word_place-else-x-le56.ensures.value)
