use Rattle.std.proofs.Common.{◌≡◌, ◌-◌, ◌+◌, suc, arith, rules, refl, map, ap, sym, ◌∙◌}
use Rattle.std.proofs.lemmas.Result.{err_from_is_err_and}
use Rattle.bit_image.specs.Image.{differ}
use Rattle.bit_image.specs.Page.{image_of}
use Rattle.bitmap_input.specs.Inner.Raster.{with_pixels}
use Rattle.bitmap_input.proofs.AddedBytes.{plain_pixel_stays}
use Rattle.bitmap_input.proofs.GatheredParts.{gathering_goes_on, gathering_stops, gathering_ends}
use Rattle.bitmap_input.proofs.PaintedPixels.{pixel_painted, turned}
use Rattle.bitmap_input.proofs.StepEffects.{leaving}
use Rattle.bitmap_input.proofs.plain.read_plain_row.Goals as goal

pub returns-in_err-black-clause-reads : goal.returns-in_err-black-clause-reads
returns-in_err-black-clause-reads g c =
    leaving (search rules)
    (let p = err_from_is_err_and c.from_residual.result c.from_residual.ensures.1 in
    let one : c.args.page.now.width - c.loop-x.x ≡ suc (c.args.page.now.width - (c.loop-x.x + 1)) = omega arith in
    rw (p.1, p.2) (gathering_stops (image_of c.loop-x.page) c.loop-x.invariant.so_far one c.in_err-black.ensures.reads.step))

pub loop-x-preserved : goal.loop-x-preserved
loop-x-preserved g c =
    let one : c.args.page.now.width - c.loop-x.x ≡ suc (c.args.page.now.width - (c.loop-x.x + 1)) = omega arith in
    record {
      so_far = gathering_goes_on (λ pixels. with_pixels (image_of c.set.new.self) c.args.y (c.loop-x.x + 1) (map (differ c.args.invert) pixels)) plain_pixel_stays
          c.loop-x.invariant.so_far one c.in_ok-black.ensures.reads.step
          (λ a same. pixel_painted (differ c.args.invert) (image_of c.loop-x.page) (image_of c.set.new.self) c.loop-x.x c.args.y _ a c.set.ensures.pixels
          (ap (differ c.args.invert) same ∙ sym (turned c.args.invert c.in_ok-black.black)));
      sides = search rules;
      end = search rules;
      leaves = search rules;
    }

pub returns-clause-reads : goal.returns-clause-reads
returns-clause-reads g c =
    leaving (search rules)
    (gathering_ends (image_of c.loop-x.page) c.loop-x.invariant.so_far (omega arith) refl)
