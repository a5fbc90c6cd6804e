-- The eight pixels lie in one word or in two neighbouring words.
use Rattle.std.proofs.Common.{◌-◌, ◌*◌, ◌/◌, ◌%◌, ◌^◌, ◌∷◌, ◌∙◌, get_or, bit_and, bit_or, ap, arith}
use Rattle.bit_image.specs.Words.{is_one}
use Rattle.turn_policies.proofs.Square.{eight_within, eight_over}
use Rattle.turn_policies.proofs.around.eight.Goals as goal

pub returns-then-from-le56-clause-pixels : goal.returns-then-from-le56-clause-pixels
returns-then-from-le56-clause-pixels c = λ i p.
    let from = c.args.from in
    ap (λ n. is_one (bit_and (n / 2 ^ (from % 64)) 255) i) c.word.ensures
    ∙ eight_within (0 ∷ c.args.row.now) from i p c.if-from-le56.true

pub returns-else-from-le56-clause-pixels : goal.returns-else-from-le56-clause-pixels
returns-else-from-le56-clause-pixels c = λ i p.
    let from = c.args.from in
    let row = 0 ∷ c.args.row.now in
    ap (λ n. is_one (bit_and (bit_or (n / 2 ^ (from % 64)) (c.word-else-from-le56.result * 2 ^ (64 - from % 64) % 2 ^ 64)) 255) i) c.word.ensures
    ∙ ap (λ n. is_one (bit_and (bit_or (get_or row (from / 64) 0 / 2 ^ (from % 64)) (n * 2 ^ (64 - from % 64) % 2 ^ 64)) 255) i) c.word-else-from-le56.ensures
    ∙ eight_over row from i p (omega arith) (omega (arith, c.word.ensures, c.word.type_inv))
