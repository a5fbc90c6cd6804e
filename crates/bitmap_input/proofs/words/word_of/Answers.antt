use Rattle.std.proofs.Common.{◌*◌, ◌+◌, ◌%◌, ◌^◌, ◌&&◌, ◌≡◌, ◌∙◌, ℕ, Bool, false, get_or, ap, sym, arith, subst}
use Rattle.std.specs.Int.RustNames.{bit_or}
use Rattle.std.proofs.lemmas.Bool.{lt-ltb, le-ltb}
use Rattle.bit_image.proofs.Bits.{is_one-zero}
use Rattle.bitmap_input.proofs.PackedWords.{HasFirst, eight_more}
use Rattle.bitmap_input.proofs.words.word_of.Goals as goal

pub loop-j-init : goal.loop-j-init
loop-j-init c = λ k _. is_one-zero k ∙ sym (ap (λ t. t && get_or c.args.pixels.now k false) (le-ltb k 0 (omega arith)))

pub loop-j-preserved : goal.loop-j-preserved
loop-j-preserved c =
    let f : ℕ → Bool = λ k. get_or c.args.pixels.now k false in
    let place : 8 * c.loop-j.j + 8 ≡ 8 * (c.loop-j.j + 1) = omega arith in
    subst (λ n. HasFirst f (bit_or c.loop-j.word (c.byte_at.result * 2 ^ (8 * c.loop-j.j) % 2 ^ 64)) n) place
    (eight_more f c.loop-j.word c.byte_at.result (8 * c.loop-j.j) c.loop-j.invariant c.byte_at.ensures)

pub returns : goal.returns
returns c = λ k h.
    c.loop-j.invariant k h ∙ ap (λ t. t && get_or c.args.pixels.now k false) (lt-ltb k (8 * c.loop-j.j) (omega arith))
