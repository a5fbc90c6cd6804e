use Rattle.std.proofs.Common.{◌+◌, ◌∙◌, false, length, arith, rules}
use Rattle.bitmap_input.specs.Inner.BmpHead.{shade_by}
use Rattle.bitmap_input.proofs.BmpPixels.{column_within}
use Rattle.bitmap_input.proofs.PackedWords.{filled_more}
use Rattle.bitmap_input.proofs.bmp.pixels.word_by_pixels.Goals as goal

pub shade-requires : goal.shade-requires
shade-requires c =
    column_within c.args.ink.now.depth (c.args.from + c.loop-i.i) (c.args.from + c.args.count) (length c.args.row.now) (omega arith) c.requires.within

pub loop-i-preserved : goal.loop-i-preserved
loop-i-preserved c = record {
  pixels = filled_more false c.loop-i.pixels c.loop-i.i c.shade.result (λ k. shade_by c.args.ink.now c.args.row.now (c.args.from + k))
      (omega (arith, c.loop-i.invariant.room)) c.loop-i.invariant.pixels c.shade.ensures;
  room = search rules;
}

pub returns : goal.returns
returns c = λ k h. c.word_of.ensures k (omega arith) ∙ c.loop-i.invariant.pixels k (omega arith)
