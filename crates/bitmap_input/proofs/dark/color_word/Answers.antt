use Rattle.std.proofs.Common.{ℕ, ◌≤◌, ◌+◌, ◌*◌, ◌∙◌, ap, arith}
use Rattle.std.specs.Prelude.{nat_le}
use Rattle.bitmap_input.specs.Inner.Shading.{bytes_sum}
use Rattle.bitmap_input.proofs.PackedWords.{capped}
use Rattle.bitmap_input.proofs.dark.color_word.Goals as goal

pub returns : goal.returns
returns c = λ k h.
    let at : ℕ = c.args.from + c.args.step * k in
    let most : bytes_sum c.args.row.now at ≤ 765
    = omega (arith, (c.type_inv.row at).fits, (c.type_inv.row (at + 1)).fits, (c.type_inv.row (at + 2)).fits) in
    c.word_of.ensures k h ∙ c.test_colors.ensures k h ∙ ap (nat_le (bytes_sum c.args.row.now at)) c.min-most.ensures ∙
    capped (bytes_sum c.args.row.now at) c.args.limit 765 most
