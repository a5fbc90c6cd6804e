use Rattle.std.proofs.Common.{List, Bool, ℕ, false, [], ◌∷◌, ◌+◌, ◌*◌, ◌%◌, ◌/◌, ◌^◌, get_or, ap, ◌∙◌, refl}
use Rattle.bit_image.specs.Words.{is_one}
use Rattle.bitmap_input.proofs.PackedWords.{gathered-number, is_one-number, eight_at}
use Rattle.bitmap_input.proofs.words.byte_at.Goals as goal

pub returns : goal.returns
returns c = λ k.
    let p : ℕ → Bool = λ i. get_or c.args.pixels.now (c.args.at + i) false in
    let bs : List Bool = get_or c.args.pixels.now c.args.at false ∷ p 1 ∷ p 2 ∷ p 3 ∷ p 4 ∷ p 5 ∷ p 6 ∷ p 7 ∷ [] in
    ap (λ n. is_one n k)
    (ap (λ n. n * 72624976668147840 % 2 ^ 64 / 2 ^ 56) c.from_le_bytes.ensures ∙ gathered-number bs refl) ∙
    is_one-number bs k ∙ eight_at c.args.pixels.now c.args.at k
