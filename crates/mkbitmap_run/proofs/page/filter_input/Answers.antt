use Rattle.std.proofs.Common.{ℕ, Err, refl, ap, subst}
use Rattle.bitmap_input.specs.Inner.Reading.{CountsBy}
use Rattle.bitmap_input.specs.Reading.{cause_of_fault}
use Rattle.run_output.specs.Told.{source_of}
use Rattle.small_program.proofs.TakenInput.{nothing_taken}
use Rattle.mkbitmap_run.proofs.HeaderEndings.{header_stands, not_opened, run_at_head, run_out_of_memory, run_unopened}
use Rattle.mkbitmap_run.proofs.page.filter_input.Goals as goal

-- standard input can't be opened
pub returns-in-Err : goal.returns-in-Err
returns-in-Err g c =
    run_unopened c.args.setup (source_of g.I.Inputs c.args.inputs.now) (source_of g.I.Inputs c.open.new.self) _ _ c.open.ensures.one_more
    c.in-Err.ensures.none_opened (not_opened c.in-Err.field-0 _ _ _ (λ e. c.in-Err.ensures.absent.0 (ap Err e)) (λ e. c.in-Err.ensures.absent_steady (ap Err e)) (λ e. c.in-Err.ensures.cause (ap Err e)))
    (record { same = refl; same_open = refl; says = c.say_of_file.ensures.says })

-- memory ran out
pub returns-in_default : goal.returns-in_default
returns-in_default g c =
    rw c.say_out_of_memory.ensures.ending
    (run_out_of_memory c.args.setup (source_of g.I.Inputs c.args.inputs.now) (source_of g.I.Inputs c.open.new.self) _ _ c.open.ensures.one_more c.in-Ok.ensures.steady
    (λ lacks. let never = c.in-Ok.ensures.absent.1 lacks in cc) (record { same = refl; same_open = refl; says = c.say_out_of_memory.ensures.says }))

-- the header was read
pub returns-in-Ok-read_head : goal.returns-in-Ok-read_head
returns-in-Ok-read_head g c =
    c.filter_page.ensures (source_of g.I.Inputs c.args.inputs.now)
    (header_stands (source_of g.I.Inputs c.args.inputs.now) (source_of g.I.Inputs c.open.new.self) (source_of g.I.Inputs c.read_head.new.inputs) c.read_head.new.reader c.in-Ok-read_head.head
    c.open.ensures.one_more c.in-Ok.ensures.steady (nothing_taken _ _ c.in-Ok.ensures.file (λ lacks. let never = c.in-Ok.ensures.absent.1 lacks in cc)) c.read_head.ensures.stays
    c.in-Ok-read_head.ensures.reads c.in-Ok-read_head.ensures.gives)

-- the header couldn't be read
pub returns-in-Err-read_head : goal.returns-in-Err-read_head
returns-in-Err-read_head g c =
    rw c.say_fault.ensures.ending
    (run_at_head c.args.setup (source_of g.I.Inputs c.args.inputs.now) (source_of g.I.Inputs c.read_head.new.inputs) _ _ (cause_of_fault c.in-Err-read_head.fault) c.read_head.new.reader
    (source_of g.I.Inputs c.open.new.self) c.open.ensures.one_more (nothing_taken _ _ c.in-Ok.ensures.file (λ lacks. let never = c.in-Ok.ensures.absent.1 lacks in cc)) c.read_head.ensures.stays
    (subst (λ (n : ℕ). CountsBy (cause_of_fault c.in-Err-read_head.fault) n (g.I.Inputs.faults c.read_head.new.inputs)) c.in-Ok.ensures.steady c.in-Err-read_head.ensures.reads)
    c.in-Err-read_head.ensures.stops (record { same = refl; same_open = refl; says = c.say_fault.ensures.says }))
