use Rattle.std.proofs.Common.{◌≡◌, ◌⊎◌, ◌*◌, inl, inr, refl, rules}
use Rattle.run_output.specs.declared.status.Status.TheVariants as status
use Rattle.page_batches.specs.Inner.Desks.{sinks_at}
use Rattle.page_batches.proofs.Counts.{same_count}
use Rattle.run_output.specs.Messages.{out_of_memory}
use Rattle.page_batches.proofs.Carrying.{memory_out, only_said}
use Rattle.file_documents.specs.Inner.Progress.{status_of}
use Rattle.file_documents.specs.Inner.Tasks.{manner_of}
use Rattle.file_documents.specs.declared.pages.PagesEnd.TheVariants as why
use Rattle.file_documents.proofs.Differing.{out_not_unwritten, refused_not_done, refused_not_out}
use Rattle.file_documents.proofs.Ending.{end_said, halts_in, not_done, not_out}
use Rattle.file_documents.proofs.Finishing.{end_held_or_out, goes_on_or_out}
use Rattle.file_documents.proofs.LastBatch.{idle_held}
use Rattle.file_documents.proofs.file.finish.Goals as goal
use Rattle.file_documents.proofs.file.finish.Goals.{in-Fault, in-TooMany}

-- the end is held
pub returns-in-End-clause-ended : goal.returns-in-End-clause-ended
returns-in-End-clause-ended g c =
    end_held_or_out (2 * c.args.task.now.plan.workers) (manner_of g.J.PageJob c.args.task.now) c.args.name.now c.args.base.now c.args.made.now c.args.converted.end c.args.converted.pages c.hold_end.result c.args.batch.now c.hold_end.new.batch
    (sinks_at g.O.Sink g.E.Sink c.args.desk.now) (sinks_at g.O.Sink g.E.Sink c.hold_end.new.desk)
    (rw c.in-End.is c.hold_end.ensures.held)

pub returns-in-End-clause-because : goal.returns-in-End-clause-because
returns-in-End-clause-because g c = goes_on_or_out c.hold_end.result _ _ _ c.args.converted.end _ _ _ _ (rw c.in-End.is refl) c.hold_end.ensures.held

-- and so is the message
pub returns-in-Trailing-clause-ended : goal.returns-in-Trailing-clause-ended
returns-in-Trailing-clause-ended g c =
    end_held_or_out (2 * c.args.task.now.plan.workers) (manner_of g.J.PageJob c.args.task.now) c.args.name.now c.args.base.now c.args.made.now c.args.converted.end c.args.converted.pages c.hold_end-in-Trailing.result c.args.batch.now c.hold_end-in-Trailing.new.batch
    (sinks_at g.O.Sink g.E.Sink c.args.desk.now) (sinks_at g.O.Sink g.E.Sink c.hold_end-in-Trailing.new.desk)
    (rw c.in-Trailing.is c.hold_end-in-Trailing.ensures.held)

pub returns-in-Trailing-clause-because : goal.returns-in-Trailing-clause-because
returns-in-Trailing-clause-because g c = goes_on_or_out c.hold_end-in-Trailing.result _ _ _ c.args.converted.end _ _ _ _ (rw c.in-Trailing.is refl) c.hold_end-in-Trailing.ensures.held

-- memory ran out
pub returns-in-Fault-NoMemory-clause-ended : goal.returns-in-Fault-NoMemory-clause-ended
returns-in-Fault-NoMemory-clause-ended g c = λ first are.
    inr (
      inr refl,
      memory_out first _ _ (record { outs = refl; opened = refl })
          c.say_out_of_memory.ensures.says,
    )

-- all that was held is carried out, and the end is said
pub returns-in-Ok-clause-ended : goal.returns-in-Ok-clause-ended
returns-in-Ok-clause-ended g c = λ first are.
    end_said c.args.name.now c.args.converted.end c.args.converted.pages _ _ first (sinks_at g.O.Sink g.E.Sink c.args.desk.now) (sinks_at g.O.Sink g.E.Sink c.carry_out.new.desk) _ (c.in-Ok.ensures.ended first are) (record { outs = refl; opened = refl })
    c.say_of_page.ensures.says
    (elim c.match-converted.branch [
      | in-TooMany w ↦ record {
        is = rw (w.status-is, w.in-TooMany.is) refl;
        going = rw w.status-is refused_not_done;
        memory = rw w.status-is refused_not_out;
        same = rw (w.status-is, w.in-TooMany.is, c.from.ensures) refl;
      }
      | in-Fault w ↦
          let which : (status_of (why.Fault w.in-Fault.fault) ≡ status.Refused) ⊎ (status_of (why.Fault w.in-Fault.fault) ≡ status.Unread) = search rules in
          record {
            is = rw (w.status-is, w.in-Fault.is, w.status_of.ensures) refl;
            going = rw (w.status-is, w.status_of.ensures) (not_done w.in-Fault.fault which);
            memory = rw (w.status-is, w.status_of.ensures) (not_out w.in-Fault.fault which);
            same = rw (w.status-is, w.in-Fault.is, c.from.ensures, w.text.ensures) refl;
          }
    ])

pub returns-in-Ok-clause-because : goal.returns-in-Ok-clause-because
returns-in-Ok-clause-because g c = elim c.match-converted.branch [
  | in-TooMany w ↦ record { which = inl (rw (w.status-is, w.in-TooMany.is) refl); unwritten = λ _. inl (rw w.in-TooMany.is refl) }
  | in-Fault w ↦
      let which : (status_of (why.Fault w.in-Fault.fault) ≡ status.Refused) ⊎ (status_of (why.Fault w.in-Fault.fault) ≡ status.Unread) = search rules in
      record { which = inl (rw (w.status-is, w.in-Fault.is, w.status_of.ensures) refl); unwritten = λ _. rw w.in-Fault.is which }
]

-- or it isn't
pub returns-in-Err-clause-ended : goal.returns-in-Err-clause-ended
returns-in-Err-clause-ended g c = λ first are. inr (halts_in c.in-Err.status _ _ _ _ _ c.in-Err.ensures.left, c.in-Err.ensures.ended first are)

-- where memory ran out, nothing is carried out
pub returns-in-End-clause-idle : goal.returns-in-End-clause-idle
returns-in-End-clause-idle g c = idle_held c.hold_end.result _ _ _ _ _ _ _ c.hold_end.ensures.held

pub returns-in-Trailing-clause-idle : goal.returns-in-Trailing-clause-idle
returns-in-Trailing-clause-idle g c = idle_held c.hold_end-in-Trailing.result _ _ _ _ _ _ _ c.hold_end-in-Trailing.ensures.held

pub returns-in-Fault-NoMemory-clause-idle : goal.returns-in-Fault-NoMemory-clause-idle
returns-in-Fault-NoMemory-clause-idle g c = λ is. only_said out_of_memory _ _ (record { outs = refl; opened = refl })
    c.say_out_of_memory.ensures.says

pub returns-in-Ok-clause-idle : goal.returns-in-Ok-clause-idle
returns-in-Ok-clause-idle g c = λ is. absurd (elim c.match-converted.branch [
  | in-TooMany w ↦ refused_not_out (rw w.status-is at is)
  | in-Fault w ↦
      let which : (status_of (why.Fault w.in-Fault.fault) ≡ status.Refused) ⊎ (status_of (why.Fault w.in-Fault.fault) ≡ status.Unread) = search rules in
      not_out w.in-Fault.fault which (rw (w.status-is, w.status_of.ensures) at is)
])

pub returns-in-Err-clause-idle : goal.returns-in-Err-clause-idle
returns-in-Err-clause-idle g c = c.in-Err.ensures.idle

-- whether a further file can be read, and the desk, which is the same
pub hold_end-requires-clause-going : goal.hold_end-requires-clause-going
hold_end-requires-clause-going g c κs within = c.requires.going

pub hold_end-requires-in-Trailing-clause-going : goal.hold_end-requires-in-Trailing-clause-going
hold_end-requires-in-Trailing-clause-going g c κs within = c.requires.going

pub returns-in-End-clause-going : goal.returns-in-End-clause-going
returns-in-End-clause-going g c = c.hold_end.ensures.going

pub returns-in-End-clause-keeps : goal.returns-in-End-clause-keeps
returns-in-End-clause-keeps g c = c.hold_end.ensures.keeps

pub returns-in-Trailing-clause-going : goal.returns-in-Trailing-clause-going
returns-in-Trailing-clause-going g c = c.hold_end-in-Trailing.ensures.going

pub returns-in-Trailing-clause-keeps : goal.returns-in-Trailing-clause-keeps
returns-in-Trailing-clause-keeps g c = c.hold_end-in-Trailing.ensures.keeps

pub returns-in-Fault-NoMemory-clause-because : goal.returns-in-Fault-NoMemory-clause-because
returns-in-Fault-NoMemory-clause-because g c = record { which = inr (inr refl); unwritten = λ is. absurd (out_not_unwritten is) }

pub returns-in-Fault-NoMemory-clause-going : goal.returns-in-Fault-NoMemory-clause-going
returns-in-Fault-NoMemory-clause-going g c = tt

pub returns-in-Fault-NoMemory-clause-keeps : goal.returns-in-Fault-NoMemory-clause-keeps
returns-in-Fault-NoMemory-clause-keeps g c = record { outs = refl; errs = refl; ready = c.say_out_of_memory.ensures.stays_ready; never_falls = same_count (g.O.Sink.faults c.args.desk.now.outs.now) }

pub returns-in-Ok-clause-going : goal.returns-in-Ok-clause-going
returns-in-Ok-clause-going g c = tt

pub returns-in-Ok-clause-keeps : goal.returns-in-Ok-clause-keeps
returns-in-Ok-clause-keeps g c =
    let kept = c.carry_out.ensures.keeps in record { outs = kept.outs; errs = kept.errs; ready = c.say_of_page.ensures.stays_ready; never_falls = kept.never_falls }

pub returns-in-Err-clause-going : goal.returns-in-Err-clause-going
returns-in-Err-clause-going g c = tt

pub returns-in-Err-clause-keeps : goal.returns-in-Err-clause-keeps
returns-in-Err-clause-keeps g c = c.carry_out.ensures.keeps
