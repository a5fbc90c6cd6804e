use Rattle.std.proofs.lemmas.Result.{err_from_is_err_and}
use Rattle.bitmap_input.specs.Raw.{IsShown}
use Rattle.bitmap_input.specs.Inner.BmpHead.{pixels_by}
use Rattle.bitmap_input.proofs.ComposedSteps.{reads_memory}
use Rattle.bitmap_input.proofs.BmpPictures.{picture_shown, picture_stopped}
use Rattle.bitmap_input.proofs.bmp.read_pixels.Goals as goal

pub returns-in_err-page-clause-reads : goal.returns-in_err-page-clause-reads
returns-in_err-page-clause-reads g c =
    let p = err_from_is_err_and c.from_residual.result c.from_residual.ensures.1 in
    λ color _. rw (p.1, p.2) (reads_memory (IsShown c.args.tone.now.level c.args.tone.now.invert) (pixels_by c.args.header.now color) _ _)

pub returns-in_err-row-clause-reads : goal.returns-in_err-row-clause-reads
returns-in_err-row-clause-reads g c =
    let p = err_from_is_err_and c.from_residual-in_err-row.result c.from_residual-in_err-row.ensures.1 in
    λ color _. rw (p.1, p.2) (reads_memory (IsShown c.args.tone.now.level c.args.tone.now.invert) (pixels_by c.args.header.now color) _ _)

pub returns-in_err-read_rows-clause-reads : goal.returns-in_err-read_rows-clause-reads
returns-in_err-read_rows-clause-reads g c =
    let p = err_from_is_err_and c.from_residual-in_err-read_rows.result c.from_residual-in_err-read_rows.ensures.1 in
    λ color table. rw (p.1, p.2) (picture_stopped c.args.tone.now.level c.args.tone.now.invert c.args.header.now color c.in_ok-page.page _
    c.in_ok-page.ensures.width c.in_ok-page.ensures.height _ (c.in_err-read_rows.ensures.reads color table))

pub returns-clause-reads : goal.returns-clause-reads
returns-clause-reads g c = λ color table. picture_shown c.args.tone.now.level c.args.tone.now.invert c.args.header.now color c.in_ok-page.page _
    c.in_ok-page.ensures.width c.in_ok-page.ensures.height c.in_ok-page.ensures.white c.in_ok-read_rows.ensures.sides c.known.ensures (c.in_ok-read_rows.ensures.reads color table)
