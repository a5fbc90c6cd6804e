use Rattle.std.proofs.Common.{◌≡◌, ◌-◌, suc, map, arith, rules, refl}
use Rattle.std.proofs.lemmas.Result.{err_from_is_err_and}
use Rattle.bit_image.specs.Page.{image_of}
use Rattle.bitmap_input.specs.Inner.Raster.{with_rows}
use Rattle.bitmap_input.specs.Inner.Stored.{is_black_pixel}
use Rattle.bitmap_input.proofs.Bodies.{row_stays}
use Rattle.bitmap_input.proofs.GatheredParts.{gathering_goes_on, gathering_stops, gathering_ends}
use Rattle.bitmap_input.proofs.PaintedRows.{row_painted}
use Rattle.bitmap_input.proofs.StepEffects.{leaving}
use Rattle.bitmap_input.proofs.raster.read_rows.Goals as goal

pub loop-y-preserved : goal.loop-y-preserved
unfolding image_of
loop-y-preserved g c =
    let one : c.loop-y.y ≡ suc (c.loop-y.y - 1) = omega arith in
    let row = rw c.loop-y.invariant.sides.width at c.in_ok-read_row.ensures.reads.step in
    record {
      so_far = gathering_goes_on (λ rows. with_rows (image_of c.read_row.new.page) (c.loop-y.y - 1) (map (map (is_black_pixel c.args.raster)) rows)) (row_stays c.args.raster c.args.page.now.width)
          c.loop-y.invariant.so_far one row
          (λ a painted rows. row_painted (image_of c.loop-y.page) (image_of c.read_row.new.page) c.loop-y.y (c.loop-y.y - 1) (map (is_black_pixel c.args.raster) a) one painted
          (map (map (is_black_pixel c.args.raster)) rows));
      sides = search rules;
      room = search rules;
      within = omega arith;
      leaves = search rules;
    }

pub returns-in_err-read_row-clause-reads : goal.returns-in_err-read_row-clause-reads
returns-in_err-read_row-clause-reads g c =
    leaving (search rules)
    (let p = err_from_is_err_and c.from_residual.result c.from_residual.ensures.1 in
    let one : c.loop-y.y ≡ suc (c.loop-y.y - 1) = omega arith in
    let row = rw c.loop-y.invariant.sides.width at c.in_err-read_row.ensures.reads.step in
    rw (p.1, p.2) (gathering_stops (image_of c.read_row.new.page) c.loop-y.invariant.so_far one row))

pub returns-clause-reads : goal.returns-clause-reads
returns-clause-reads g c =
    leaving (search rules)
    (gathering_ends (image_of c.loop-y.page) c.loop-y.invariant.so_far (omega arith) refl)
