use Rattle.std.proofs.Common.{◌+◌, ◌∙◌, false, ap, arith, rules}
use Rattle.bitmap_input.specs.Samples.{samples}
use Rattle.bitmap_input.specs.Inner.Shading.{brightness_at, is_black_at, black_in_bytes}
use Rattle.bitmap_input.proofs.SampleBytes.{fewer_samples}
use Rattle.bitmap_input.proofs.PackedWords.{filled_more}
use Rattle.bitmap_input.proofs.samples.word_by_pixels.Goals as goal

pub brightness_at-brightness-requires : goal.brightness_at-brightness-requires
brightness_at-brightness-requires c =
    rw c.loop-i.invariant.wide (fewer_samples c.args.shading.now.channels (c.args.from + c.loop-i.i + 1) (c.args.from + c.args.count) _ (omega arith) c.requires.within)

pub loop-i-preserved : goal.loop-i-preserved
loop-i-preserved c =
    let bright = c.brightness_at-brightness.ensures ∙ ap (λ wide. brightness_at c.args.shading.now.channels (samples wide c.args.row.now) (c.args.from + c.loop-i.i)) c.loop-i.invariant.wide in
    let pixel = c.black.ensures ∙ ap (is_black_at c.args.shading.now) bright in
    record {
      pixels = filled_more false c.loop-i.pixels c.loop-i.i c.black.result (λ k. black_in_bytes c.args.shading.now c.args.row.now (c.args.from + k))
          (omega (arith, c.loop-i.invariant.room)) c.loop-i.invariant.pixels pixel;
      room = search rules;
      wide = c.loop-i.invariant.wide;
    }

pub returns : goal.returns
returns c = λ k h. c.word_of.ensures k (omega arith) ∙ c.loop-i.invariant.pixels k (omega arith)
