use Rattle.std.proofs.Common.{◌≡◌, Err, refl, ap, sym, ◌∙◌, subst, arith}
use Rattle.bitmap_input.specs.GrayReader.{GraySource}
use Rattle.bitmap_input.specs.declared.gray_reader.GrayHead.{GrayHead}
use Rattle.run_output.specs.Told.{source_of}
use Rattle.mkbitmap_run.specs.declared.fault.Break.TheVariants as breaks
use Rattle.mkbitmap_run.specs.Inner.FilterWork.{MayRead}
use Rattle.mkbitmap_run.specs.Rows.{fits_result}
use Rattle.mkbitmap_run.proofs.HeaderEndings.{run_at_row, run_out_of_memory, run_too_large, there_behind_head}
use Rattle.mkbitmap_run.proofs.PageEndings.{run_done, run_unwritten, runs_page, with_setup}
use Rattle.mkbitmap_run.proofs.page.filter_page.Goals as goal

-- writing the page can begin
pub put_page-requires-clause-begins : goal.put_page-requires-clause-begins
put_page-requires-clause-begins g c = record {
  reading = subst (λ (r : GraySource). MayRead r (source_of g.I.Inputs c.args.inputs.now)) (sym c.in-Ok.ensures.same_reader) c.requires.reading;
  start = c.in-Ok.ensures.start;
}

-- the result is too large
pub returns-then-not-fits : goal.returns-then-not-fits
returns-then-not-fits g c = λ source stands.
    run_too_large source (source_of g.I.Inputs c.args.inputs.now) c.args.reader stands c.requires.reading.at_end c.args.setup _ _
    (ap (λ (h : GrayHead). fits_result c.args.setup h.width h.height) c.requires.read.is ∙ sym c.if-not-fits.ensures)
    (record { same = refl; same_open = refl; says = c.say_of_file_page.ensures.says })

-- memory ran out
pub returns-in_default : goal.returns-in_default
returns-in_default g c = λ source stands.
    rw c.say_out_of_memory.ensures.ending (run_out_of_memory c.args.setup source (source_of g.I.Inputs c.args.inputs.now) _ _ stands.opened stands.steady
    (there_behind_head source (source_of g.I.Inputs c.args.inputs.now) c.args.reader stands c.requires.reading.at_end) (record { same = refl; same_open = refl; says = c.say_out_of_memory.ensures.says }))

-- the document is whole
pub returns-in-Ok-put_page : goal.returns-in-Ok-put_page
returns-in-Ok-put_page g c = λ source stands.
    let begins = c.in-Ok.ensures in
    let p = runs_page c.args.setup source (source_of g.I.Inputs c.args.inputs.now) (source_of g.I.Inputs c.put_page.new.inputs) c.args.head c.args.reader c.put_page.new.self.reader c.in-Ok.work stands
    begins c.requires.read (sym c.if-not-fits.ensures) c.put_page.ensures.stays in
    let puts = c.in-Ok-put_page.ensures.puts in
    let (steady, went) = c.in-Ok-put_page.ensures.calls in
    with_setup _ _ _ _ _ _ _ begins.same_setup
    (run_done _ source _ p _ _ puts.rows puts.gives puts.all steady
    (record { documents = puts.documents; closed = c.in-Ok-put_page.ensures.open; went = went; silent = refl }))

-- a row of the page couldn't be read
pub returns-in-Err-Input : goal.returns-in-Err-Input
returns-in-Err-Input g c = λ source stands.
    let begins = c.in-Ok.ensures in
    let is : c.put_page.result ≡ Err (breaks.Input c.in-Err-Input.fault) = c.in-Err-Input.is ∙ ap Err c.in-Err-Input.field-0-is in
    let (last, stop, documents) = rw is at c.put_page.ensures.breaks in
    let (counts, went) = rw is at c.put_page.ensures.calls in
    let open_still = rw is at c.put_page.ensures.open in
    let p = runs_page c.args.setup source (source_of g.I.Inputs c.args.inputs.now) (source_of g.I.Inputs c.put_page.new.inputs) c.args.head c.args.reader c.put_page.new.self.reader c.in-Ok.work stands
    begins c.requires.read (sym c.if-not-fits.ensures) c.put_page.ensures.stays in
    rw c.say_fault.ensures.ending
    (with_setup _ _ _ _ _ _ _ begins.same_setup
    (run_at_row _ source _ p _ _ _ last stop counts (record { documents = documents; still_open = open_still; went = went; says = c.say_fault.ensures.says })))

-- the document couldn't be written
pub returns : goal.returns
returns g c = λ source stands.
    let begins = c.in-Ok.ensures in
    let is : c.put_page.result ≡ Err breaks.Output = c.in-Err-Output.is ∙ ap Err c.in-Err-Output.field-0-is in
    let (rows, gives, cut) = rw is at c.put_page.ensures.breaks in
    let (steady, broke) = rw is at c.put_page.ensures.calls in
    let fits = begins.start.at_work.fits in
    let p = runs_page c.args.setup source (source_of g.I.Inputs c.args.inputs.now) (source_of g.I.Inputs c.put_page.new.inputs) c.args.head c.args.reader c.put_page.new.self.reader c.in-Ok.work stands
    begins c.requires.read (sym c.if-not-fits.ensures) c.put_page.ensures.stays in
    rw c.say_not_written.ensures.ending
    (with_setup _ _ _ _ _ _ _ begins.same_setup
    (run_unwritten _ source _ p _ _ rows gives fits.some_times (omega (arith, fits.some_rows, fits.height)) steady cut broke c.say_not_written.ensures.says))
