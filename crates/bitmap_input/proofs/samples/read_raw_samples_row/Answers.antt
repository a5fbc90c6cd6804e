use Rattle.std.proofs.Common.{◌∙◌, ap, sym, false, map, ℕ, List, rules}
use Rattle.std.proofs.lemmas.Result.{err_from_is_err_and}
use Rattle.bit_image.specs.Page.{image_of}
use Rattle.bitmap_input.specs.Cut.Cut.{Takes}
use Rattle.bitmap_input.specs.Samples.{PixelSamples, is_wide, samples, grouped}
use Rattle.bitmap_input.specs.Inner.Shading.{black_of}
use Rattle.bitmap_input.specs.Inner.Raster.{with_row}
use Rattle.bitmap_input.proofs.ComposedSteps.{reads_map, reads_stop}
use Rattle.bitmap_input.proofs.StepEffects.{leaving}
use Rattle.bitmap_input.proofs.samples.read_raw_samples_row.Goals as goal

pub returns-in_err-read_block-clause-reads : goal.returns-in_err-read_block-clause-reads
returns-in_err-read_block-clause-reads g c =
    leaving (search rules)
    (let p = err_from_is_err_and c.from_residual.result c.from_residual.ensures.1 in
    let row = rw c.requires.whole at c.in_err-read_block.ensures.reads.step in
    rw (p.1, p.2) (reads_stop (λ bytes rest. Takes false (grouped c.args.shading.now.channels (samples (is_wide c.args.shading.now.maxval) bytes)) rest) row))

pub returns-clause-reads : goal.returns-clause-reads
returns-clause-reads g c =
    leaving (search rules)
    (let values : List ℕ → List (PixelSamples c.args.shading.now.channels) = λ bytes. grouped c.args.shading.now.channels (samples (is_wide c.args.shading.now.maxval) bytes) in
    let row = rw c.requires.whole at c.in_ok-read_block.ensures.reads.step in
    reads_map values
    (λ _ bytes same. c.place_row.ensures.pixels ∙ ap (λ bytes. with_row (image_of c.args.page.now) c.args.y (map (black_of c.args.shading.now) (values bytes))) (sym same)) row)
