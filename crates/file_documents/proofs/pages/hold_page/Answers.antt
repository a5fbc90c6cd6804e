use Rattle.std.proofs.Common.{inr, refl}
use Rattle.run_output.specs.Messages.{out_of_memory}
use Rattle.page_batches.proofs.Carrying.{memory_out, only_said}
use Rattle.page_batches.proofs.Counts.{same_count}
use Rattle.file_documents.proofs.Differing.{out_not_unwritten}
use Rattle.file_documents.proofs.pages.hold_page.Goals as goal

-- no memory for the name
pub returns-in_default-clause-held : goal.returns-in_default-clause-held
returns-in_default-clause-held g c = λ items are text is. memory_out _ _ _ (record { outs = refl; opened = refl })
    c.say_out_of_memory.ensures.says

pub returns-in_default-clause-idle : goal.returns-in_default-clause-idle
returns-in_default-clause-idle g c = λ is. only_said out_of_memory _ _ (record { outs = refl; opened = refl })
    c.say_out_of_memory.ensures.says

pub returns-clause-idle : goal.returns-clause-idle
returns-clause-idle g c = c.hold_page.ensures.idle

-- the page is held
pub returns-clause-held : goal.returns-clause-held
returns-clause-held g c = rw (c.in-Ok.ensures, c.documents_before.ensures.value) at c.hold_page.ensures.held

pub returns-in_default-clause-halts : goal.returns-in_default-clause-halts
returns-in_default-clause-halts g c = (inr refl, λ is. absurd (out_not_unwritten is))

pub returns-in_default-clause-going : goal.returns-in_default-clause-going
returns-in_default-clause-going g c = tt

-- the desk is the same
pub returns-in_default-clause-keeps : goal.returns-in_default-clause-keeps
returns-in_default-clause-keeps g c = record { outs = refl; errs = refl; ready = c.say_out_of_memory.ensures.stays_ready; never_falls = same_count (g.O.Sink.faults c.args.desk.now.outs.now) }

pub returns-clause-keeps : goal.returns-clause-keeps
returns-clause-keeps g c = c.hold_page.ensures.keeps
