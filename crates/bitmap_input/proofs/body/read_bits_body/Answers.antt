use Rattle.std.proofs.lemmas.Result.{err_from_is_err_and}
use Rattle.bitmap_input.specs.Cut.{◌>>=◌}
use Rattle.bitmap_input.specs.Front.{rows_raster}
use Rattle.bitmap_input.specs.GrayRows.{header_end}
use Rattle.bitmap_input.specs.Inner.Stored.{is_plain, row_stored, pixel_entry}
use Rattle.bitmap_input.proofs.AddedBytes.{sides_stay}
use Rattle.bitmap_input.proofs.GrayHeaders.{header_end_stays}
use Rattle.bitmap_input.proofs.ComposedSteps.{reads_on, reads_stop}
use Rattle.bitmap_input.proofs.Bodies.{rows_at}
use Rattle.bitmap_input.proofs.body.read_bits_body.Goals as goal

pub returns-in_err-sides-clause-reads : goal.returns-in_err-sides-clause-reads
returns-in_err-sides-clause-reads g c level invert at =
    let p = err_from_is_err_and c.from_residual.result c.from_residual.ensures.1 in
    let raster = c.args.raster in
    rw (p.1, p.2) (reads_stop (λ s rest. header_end (is_plain raster) rest >>= λ _ rest. rows_raster (pixel_entry raster) (row_stored raster s.0) s.0 s.1 rest) c.in_err-sides.ensures.reads.step)

pub returns-in_err-end_header-clause-reads : goal.returns-in_err-end_header-clause-reads
returns-in_err-end_header-clause-reads g c level invert at =
    let p = err_from_is_err_and c.from_residual-in_err-end_header.result c.from_residual-in_err-end_header.ensures.1 in
    let raster = c.args.raster in
    let end = rw c.is_plain.ensures at c.in_err-end_header.ensures.reads.step in
    rw (p.1, p.2) (reads_on sides_stay c.in_ok-sides.ensures.reads.step
    (λ s _. reads_stop (λ _ rest. rows_raster (pixel_entry raster) (row_stored raster s.0) s.0 s.1 rest) end))

pub returns-clause-reads : goal.returns-clause-reads
returns-clause-reads g c level invert at =
    let raster = c.args.raster in
    let end = rw c.is_plain.ensures at c.in_ok-end_header.ensures.reads.step in
    reads_on sides_stay c.in_ok-sides.ensures.reads.step
    (λ s is. reads_on (header_end_stays (is_plain raster)) end
    (λ _ _. rows_at level invert (pixel_entry raster) (row_stored raster) c.in_ok-sides.sides s is (c.read_page.ensures.reads level invert at)))
