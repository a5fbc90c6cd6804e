-- Row by row, by words that are 0.
use Rattle.std.proofs.Common.{◌≡◌, ◌+◌, ◌-◌, ◌*◌, ◌%◌, ap, inl, inr, ◌∙◌, arith}
use Rattle.std.proofs.lemmas.Bool.{cases_lt}
use Rattle.bit_image.specs.Words.{is_one}
use Rattle.bit_image.proofs.Bits.{is_one-zero}
use Rattle.boundary_edges.specs.Inner.BoundaryBits.{has_edge}
use Rattle.boundary_edges.proofs.EdgeBits.{edge_none}
use Rattle.boundary_edges.proofs.strips.is_white_block.Goals as goal

pub loop-i-preserved : goal.loop-i-preserved
loop-i-preserved c = λ u v column row low.
    let strip = c.args.strip in
    let y = 8 * c.args.band + c.loop-i.i in
    elim (cases_lt (v % 8) c.loop-i.i) [
      | inl before ↦ c.loop-i.invariant u v column row before
      | inr last ↦
          let is : v ≡ 8 * c.args.band + c.loop-i.i = omega arith in
          ap (has_edge c.args.rows c.args.words.now 0 u) is
          ∙ edge_none c.args.rows c.args.words.now strip y c.down_in.result u (omega arith) c.down_in.ensures (omega arith) (omega arith)
          (ap (λ n. is_one n (u - 64 * strip)) c.if-down_in-ne0.false ∙ is_one-zero (u - 64 * strip))
    ]

pub returns : goal.returns
returns c = λ _ u v column row. c.loop-i.invariant u v column row (omega arith)
