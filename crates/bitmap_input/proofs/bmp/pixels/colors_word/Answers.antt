use Rattle.std.proofs.Common.{ℕ, ◌≡◌, ◌+◌, ◌*◌, ◌∙◌, get_or, ap, sym, arith}
use Rattle.std.specs.Prelude.{nat_le}
use Rattle.bit_image.specs.Image.{differ}
use Rattle.bitmap_input.specs.Inner.Shading.{bytes_sum}
use Rattle.bitmap_input.proofs.bmp.pixels.colors_word.Goals as goal

pub returns : goal.returns
returns c = λ k h.
    let at : ℕ = c.args.from + c.args.step * k in
    let byte : ℕ → ℕ = λ n. get_or c.args.row.now (at + n) 0 in
    let turned : bytes_sum c.args.row.now at ≡ byte 2 + byte 1 + get_or c.args.row.now at 0 = omega arith in
    c.inverted.ensures k h ∙ ap (differ c.args.tone.now.invert)
    (c.color_word-dark.ensures k h ∙ ap (λ v. nat_le v c.color_limit.result) turned ∙
    sym (c.color_limit.ensures.black (byte 2) (byte 1) (get_or c.args.row.now at 0)))
