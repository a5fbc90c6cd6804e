-- The words in front are 0; a word that isn't has a black pixel.
use Rattle.std.proofs.Common.{◌≡◌, ◌∙◌, ◌*◌, ℕ, false, refl, sym, inl, inr, arith}
use Rattle.std.proofs.lemmas.Bool.{cases_lt, false≢true}
use Rattle.bit_image.specs.Inner.Words.{black_in}
use Rattle.bit_image.proofs.Bits.{black_in-lowest, black_in-white, black_in-past}
use Rattle.boundary_edges.proofs.strips.is_white.Goals as goal

pub loop-word-preserved : goal.loop-word-preserved
loop-word-preserved c = λ u p. elim (cases_lt u (64 * c.loop-word.word-index)) [
  | inl passed ↦ c.loop-word.invariant u passed
  | inr here ↦ black_in-white c.args.row.now c.loop-word.word-index u c.if-word-ne0.false here (omega arith)
]

pub returns-then-word-ne0 : goal.returns-then-word-ne0
returns-then-word-ne0 c =
    let w = c.loop-word.word-index in
    ((λ e. absurd (false≢true e)), λ white. absurd (false≢true (sym (white _) ∙ black_in-lowest c.args.row.now w (omega arith) (omega arith))))

pub returns : goal.returns
returns c =
    let white : (u : ℕ) → black_in c.args.row.now u ≡ false = λ u. elim (cases_lt u (64 * c.loop-word.word-index)) [
      | inl passed ↦ c.loop-word.invariant u passed
      | inr past ↦ black_in-past c.args.row.now u (omega arith)
    ] in
    ((λ _. white), λ _. refl)
