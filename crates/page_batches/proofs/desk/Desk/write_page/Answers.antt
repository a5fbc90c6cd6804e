use Rattle.std.proofs.Common.{[], refl}
use Rattle.run_output.specs.Parts.{page_part}
use Rattle.page_batches.proofs.Batching.{name_of_page}
use Rattle.page_batches.proofs.Carrying.{one_said}
use Rattle.page_batches.proofs.desk.Desk.write_page.Goals as goal

-- the part is cut off
pub returns-in-Err-clause-written : goal.returns-in-Err-clause-written
returns-in-Err-clause-written g c = record {
  before = [];
  part = page_part c.args.binding c.args.name.now c.args.before c.args.text.now;
  after = [];
  split = refl;
  goes_on = tt;
  cut_off = c.in-Err.ensures.cut_off;
  broke = c.in-Err.ensures.calls;
  messages = rw (name_of_page c.args.binding c.args.name.now c.args.before c.args.text.now)
      (one_said _ _ _ c.say_not_written.ensures.says);
}

-- the desk is the same
pub returns-in-Ok-clause-keeps : goal.returns-in-Ok-clause-keeps
returns-in-Ok-clause-keeps g c = record { outs = refl; errs = refl; ready = c.requires.ready; never_falls = c.write_page_part.ensures.never_falls }

pub returns-in-Err-clause-keeps : goal.returns-in-Err-clause-keeps
returns-in-Err-clause-keeps g c = record { outs = refl; errs = refl; ready = c.say_not_written.ensures.stays_ready; never_falls = c.write_page_part.ensures.never_falls }
