use Rattle.std.proofs.Common.{◌≡◌, ◌∙◌, ap, sym, ℕ, Bool, false, List, take, map, rules}
use Rattle.std.proofs.lemmas.Result.{err_from_is_err_and}
use Rattle.bit_image.specs.Image.{Image, differ}
use Rattle.bit_image.specs.Page.{image_of}
use Rattle.bitmap_input.specs.Cut.Cut.{Takes}
use Rattle.bitmap_input.specs.Raw.{unpacked}
use Rattle.bitmap_input.specs.Inner.Raster.{with_row}
use Rattle.bitmap_input.proofs.ComposedSteps.{reads_map, reads_stop}
use Rattle.bitmap_input.proofs.StepEffects.{leaving}
use Rattle.bitmap_input.proofs.raw.read_raw_row.Goals as goal

pub returns-in_err-read_block-clause-reads : goal.returns-in_err-read_block-clause-reads
returns-in_err-read_block-clause-reads g c =
    leaving (search rules)
    (let p = err_from_is_err_and c.from_residual.result c.from_residual.ensures.1 in
    let row = rw c.requires.whole at c.in_err-read_block.ensures.reads.step in
    rw (p.1, p.2) (reads_stop (λ bytes rest. Takes false (take c.args.page.now.width (unpacked bytes)) rest) row))

pub returns-clause-reads : goal.returns-clause-reads
returns-clause-reads g c =
    leaving (search rules)
    (let width : ℕ = c.args.page.now.width in
    let old : Image = image_of c.args.page.now in
    let painted : Image = image_of c.place_row.new.page in
    let invert : Bool = c.args.invert in
    let values : List ℕ → List Bool = λ bytes. take width (unpacked bytes) in
    let row = rw c.requires.whole at c.in_ok-read_block.ensures.reads.step in
    let pixels : painted ≡ with_row old c.args.y (map (differ invert) (values c.read_block.new.row)) = c.place_row.ensures.pixels in
    reads_map {js = λ _ pixels. painted ≡ with_row old c.args.y (map (differ invert) pixels)} values
    (λ _ bytes same. pixels ∙ ap (λ bytes. with_row old c.args.y (map (differ invert) (values bytes))) (sym same)) row)
