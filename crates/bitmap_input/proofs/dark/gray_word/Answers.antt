use Rattle.std.proofs.Common.{◌+◌, ◌∙◌, ap, get_or, arith}
use Rattle.std.specs.Prelude.{nat_le}
use Rattle.bitmap_input.proofs.PackedWords.{capped}
use Rattle.bitmap_input.proofs.dark.gray_word.Goals as goal

pub returns : goal.returns
returns c = λ k h.
    let byte = (c.type_inv.row (c.args.from + k)).fits in
    c.word_of.ensures k h ∙ c.test_grays.ensures k h ∙ ap (nat_le (get_or c.args.row.now (c.args.from + k) 0)) c.min-most.ensures ∙
    capped (get_or c.args.row.now (c.args.from + k) 0) c.args.limit 255 (omega (arith, byte))
