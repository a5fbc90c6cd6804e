use Rattle.std.proofs.Common.{[], ◌∷◌, refl}
use Rattle.run_output.specs.Names.{dash}
use Rattle.page_batches.specs.Items.{Doc}
use Rattle.page_batches.proofs.Carrying.{memory_out}
use Rattle.page_batches.proofs.Counts.{same_count}
use Rattle.potrace_main.proofs.Found.{demo_found}
use Rattle.potrace_main.proofs.top.write_demo.Goals as goal

-- memory ran out before the text was made
pub returns-in-Err-clause-ended : goal.returns-in-Err-clause-ended
returns-in-Err-clause-ended g c =
    let (text, is) = demo_found c.args.pages c.args.settings c.requires.possible.0.document in
    (text, is, memory_out (Doc dash text ∷ []) _ _ (record { outs = refl; opened = refl }) c.say_out_of_memory.ensures.says)

-- the desk is the same
pub returns-in-Ok-clause-keeps : goal.returns-in-Ok-clause-keeps
returns-in-Ok-clause-keeps g c = c.write_text.ensures.keeps

pub returns-in-Err-clause-keeps : goal.returns-in-Err-clause-keeps
returns-in-Err-clause-keeps g c = record { outs = refl; errs = refl; ready = c.say_out_of_memory.ensures.stays_ready; never_falls = same_count (g.O.Sink.faults c.args.desk.now.outs.now) }
