use Rattle.std.proofs.Common.{[], refl}
use Rattle.run_output.specs.Parts.{end_part}
use Rattle.page_batches.proofs.Carrying.{one_said}
use Rattle.page_batches.proofs.desk.Desk.write_end.Goals as goal

-- the part is cut off, and what comes with it isn't said
pub returns-in-Err-clause-written : goal.returns-in-Err-clause-written
returns-in-Err-clause-written g c = λ notes. record {
  before = [];
  part = end_part c.args.name.now c.args.pages notes;
  after = [];
  split = refl;
  goes_on = tt;
  cut_off = c.in-Err.ensures.cut_off;
  broke = c.in-Err.ensures.calls;
  messages = one_said _ _ _ c.say_not_written.ensures.says;
}

-- the desk is the same
pub returns-in-Ok-clause-keeps : goal.returns-in-Ok-clause-keeps
returns-in-Ok-clause-keeps g c = record { outs = refl; errs = refl; ready = c.requires.ready; never_falls = c.write_end_part.ensures.never_falls }

pub returns-in-Err-clause-keeps : goal.returns-in-Err-clause-keeps
returns-in-Err-clause-keeps g c = record { outs = refl; errs = refl; ready = c.say_not_written.ensures.stays_ready; never_falls = c.write_end_part.ensures.never_falls }
