use Rattle.std.proofs.lemmas.Result.{err_from_is_err_and}
use Rattle.bitmap_input.specs.Front.{rows_raster}
use Rattle.bitmap_input.specs.Raw.{IsShown}
use Rattle.bitmap_input.specs.Inner.Stored.{row_stored, pixel_entry, is_black_pixel}
use Rattle.bitmap_input.proofs.ComposedSteps.{reads_memory}
use Rattle.bitmap_input.proofs.Bodies.{rows_shown, rows_stopped}
use Rattle.bitmap_input.proofs.raster.read_page.Goals as goal

pub returns-in_err-page-clause-reads : goal.returns-in_err-page-clause-reads
returns-in_err-page-clause-reads g c level invert at =
    let p = err_from_is_err_and c.from_residual.result c.from_residual.ensures.1 in
    let s = c.args.sides in
    rw (p.1, p.2) (reads_memory (IsShown level invert) (rows_raster (pixel_entry c.args.raster) (row_stored c.args.raster s.width) s.width s.height) _ _)

pub returns-in_err-line-clause-reads : goal.returns-in_err-line-clause-reads
returns-in_err-line-clause-reads g c level invert at =
    let p = err_from_is_err_and c.from_residual-in_err-line.result c.from_residual-in_err-line.ensures.1 in
    let s = c.args.sides in
    rw (p.1, p.2) (reads_memory (IsShown level invert) (rows_raster (pixel_entry c.args.raster) (row_stored c.args.raster s.width) s.width s.height) _ _)

pub returns-in_err-read_rows-clause-reads : goal.returns-in_err-read_rows-clause-reads
returns-in_err-read_rows-clause-reads g c level invert at =
    let p = err_from_is_err_and c.from_residual-in_err-read_rows.result c.from_residual-in_err-read_rows.ensures.1 in
    let s = c.args.sides in
    rw (p.1, p.2) (rows_stopped level invert (pixel_entry c.args.raster) (is_black_pixel c.args.raster) (row_stored c.args.raster) c.in_ok-page.page s c.in_ok-page.ensures.width c.in_ok-page.ensures.height
    c.read_rows.new.page _ c.in_err-read_rows.ensures.reads.step)

pub returns-clause-reads : goal.returns-clause-reads
returns-clause-reads g c level invert at =
    rows_shown level invert (pixel_entry c.args.raster) (is_black_pixel c.args.raster) (row_stored c.args.raster) c.in_ok-page.page c.args.sides c.in_ok-page.ensures.width c.in_ok-page.ensures.height
    c.read_rows.new.page at c.in_ok-page.ensures.white c.in_ok-read_rows.ensures.sides c.known.ensures c.in_ok-read_rows.ensures.reads.step
