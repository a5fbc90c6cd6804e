use Rattle.std.proofs.Common.{option_map, refl}
use Rattle.run_output.specs.Names.{next_name}
use Rattle.page_batches.specs.Inner.Held.{end_notes}
use Rattle.page_batches.proofs.Carrying.{memory_out}
use Rattle.page_batches.proofs.Counts.{same_count}
use Rattle.page_batches.proofs.Holding.{all_held, end_is_held}
use Rattle.page_batches.proofs.Waiting.{end_waits}
use Rattle.file_documents.proofs.file.hold_end.Goals as goal

-- the items of the end stand behind those of what was held
pub returns-in-Ok-clause-held : goal.returns-in-Ok-clause-held
returns-in-Ok-clause-held g c = λ first are.
    let b = c.args.task.now.plan.binding in
    let name = next_name c.args.base.now c.args.made.now.made in
    let notes = end_notes (option_map (λ s. s.now) c.args.trailing) c.args.pages in
    rw c.in-Ok.ensures.held (all_held b _ _ _ _ _ (end_is_held b _ c.args.batch.now name c.args.pages notes first are))

pub returns-in-Ok-clause-going : goal.returns-in-Ok-clause-going
returns-in-Ok-clause-going g c =
    let b = c.args.task.now.plan.binding in
    let name = next_name c.args.base.now c.args.made.now.made in
    let notes = end_notes (option_map (λ s. s.now) c.args.trailing) c.args.pages in
    record { waits = rw c.in-Ok.ensures.held (end_waits b _ c.args.pages _ c.args.batch.now name notes c.requires.going.waits); ready = c.requires.going.ready }

-- memory ran out
pub returns-in-Err-clause-held : goal.returns-in-Err-clause-held
returns-in-Err-clause-held g c = (
  refl,
  λ items. memory_out items _ _ (record { outs = refl; opened = refl })
      c.say_out_of_memory.ensures.says,
)

pub returns-in-Err-clause-going : goal.returns-in-Err-clause-going
returns-in-Err-clause-going g c = tt

-- the desk is the same
pub returns-in-Ok-clause-keeps : goal.returns-in-Ok-clause-keeps
returns-in-Ok-clause-keeps g c = record { outs = refl; errs = refl; ready = c.requires.going.ready; never_falls = same_count (g.O.Sink.faults c.args.desk.now.outs.now) }

pub returns-in-Err-clause-keeps : goal.returns-in-Err-clause-keeps
returns-in-Err-clause-keeps g c = record { outs = refl; errs = refl; ready = c.say_out_of_memory.ensures.stays_ready; never_falls = same_count (g.O.Sink.faults c.args.desk.now.outs.now) }
