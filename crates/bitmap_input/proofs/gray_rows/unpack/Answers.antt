use Rattle.std.proofs.Common.{◌∙◌, sym, arith}
use Rattle.std.proofs.lemmas.List.{ext_get_or}
use Rattle.bitmap_input.specs.Samples.{samples}
use Rattle.bitmap_input.proofs.gray_rows.unpack.Goals as goal

pub returns : goal.returns
returns c =
    ext_get_or 0 c.loop-x.row (samples c.args.wide c.args.line.now) (c.loop-x.invariant.room ∙ sym c.requires.whole)
    (λ i h. c.loop-x.invariant.value i (omega (arith, h, c.loop-x.invariant.room)))
