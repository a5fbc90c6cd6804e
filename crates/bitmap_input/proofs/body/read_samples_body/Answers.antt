use Rattle.std.proofs.Common.{◌++◌, Bool, ℕ, rules}
use Rattle.std.proofs.lemmas.Result.{err_from_is_err_and}
use Rattle.bitmap_input.specs.Cut.{◌>>=◌}
use Rattle.bitmap_input.specs.Front.{maxval, rows_raster}
use Rattle.bitmap_input.specs.GrayRows.{header_end}
use Rattle.bitmap_input.specs.Samples.{as_entry}
use Rattle.bitmap_input.proofs.AddedBytes.{sides_stay, maxval_stays}
use Rattle.bitmap_input.proofs.GrayHeaders.{header_end_stays}
use Rattle.bitmap_input.proofs.ComposedSteps.{reads_on, reads_stop, reads_as}
use Rattle.bitmap_input.proofs.Bodies.{rows_at}
use Rattle.bitmap_input.proofs.Formats.{samples_row, samples_body, samples_stored, samples_at_level}
use Rattle.bitmap_input.proofs.StepEffects.{leaving}
use Rattle.bitmap_input.proofs.body.read_samples_body.Goals as goal

pub returns-in_err-sides : goal.returns-in_err-sides
returns-in_err-sides g c = record {
  reads = leaving (search rules)
      (let p = err_from_is_err_and c.from_residual.result c.from_residual.ensures.1 in
      let kind = c.args.channels in
      rw (p.1, p.2) (reads_as (λ more. samples_body c.args.plain kind (c.args.buffer.now.bytes ++ more))
      (reads_stop (λ s rest. maxval rest >>= λ maxval rest. header_end c.args.plain rest >>= λ _ rest.
      rows_raster (as_entry kind maxval) (samples_row c.args.plain kind maxval s.0) s.0 s.1 rest) c.in_err-sides.ensures.reads.step)));
}

pub returns-in_err-maxval : goal.returns-in_err-maxval
returns-in_err-maxval g c = record {
  reads = leaving (search rules)
      (let p = err_from_is_err_and c.from_residual-in_err-maxval.result c.from_residual-in_err-maxval.ensures.1 in
      let kind = c.args.channels in
      rw (p.1, p.2) (reads_as (λ more. samples_body c.args.plain kind (c.args.buffer.now.bytes ++ more))
      (reads_on sides_stay c.in_ok-sides.ensures.reads.step
      (λ s _. reads_stop (λ maxval rest. header_end c.args.plain rest >>= λ _ rest.
      rows_raster (as_entry kind maxval) (samples_row c.args.plain kind maxval s.0) s.0 s.1 rest) c.in_err-maxval.ensures.reads.step))));
}

pub returns-in_err-end_header : goal.returns-in_err-end_header
returns-in_err-end_header g c = record {
  reads = leaving (search rules)
      (let p = err_from_is_err_and c.from_residual-in_err-end_header.result c.from_residual-in_err-end_header.ensures.1 in
      let kind = c.args.channels in
      rw (p.1, p.2) (reads_as (λ more. samples_body c.args.plain kind (c.args.buffer.now.bytes ++ more))
      (reads_on sides_stay c.in_ok-sides.ensures.reads.step
      (λ s _. reads_on maxval_stays c.in_ok-maxval.ensures.reads.step
      (λ maxval _. reads_stop (λ _ rest. rows_raster (as_entry kind maxval) (samples_row c.args.plain kind maxval s.0) s.0 s.1 rest) c.in_err-end_header.ensures.reads.step)))));
}

pub returns : goal.returns
returns g c = record {
  reads = leaving (search rules)
      (let level : ℕ = c.args.tone.now.level in
      let invert : Bool = c.args.tone.now.invert in
      let kind = c.args.channels in
      let white : ℕ = c.in_ok-maxval.maxval in
      let rows = rw c.of_samples-raster.ensures at c.read_page.ensures.reads in
      reads_as (λ more. samples_body c.args.plain kind (c.args.buffer.now.bytes ++ more))
      (reads_on sides_stay c.in_ok-sides.ensures.reads.step
      (λ s is. reads_on maxval_stays c.in_ok-maxval.ensures.reads.step
      (λ n same. rw same (reads_on (header_end_stays c.args.plain) c.in_ok-end_header.ensures.reads.step
      (λ _ _. rows_at level invert (as_entry kind white) (samples_row c.args.plain kind white) c.in_ok-sides.sides s is
      (samples_stored c.args.plain _ level invert c.in_ok-sides.sides.width c.in_ok-sides.sides.height
      (rows level invert (samples_at_level c.args.plain _ level c.brightest_black.ensures.black)))))))));
}
