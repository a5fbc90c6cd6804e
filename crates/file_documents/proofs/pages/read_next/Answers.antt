use Rattle.std.proofs.Common.{◌≡◌, Err, ap}
use Rattle.pt_core.specs.Files.{unread}
use Rattle.bitmap_input.specs.Cut.FileEnd.{End, Trailing}
use Rattle.bitmap_input.specs.Front.{front}
use Rattle.bitmap_input.specs.Front.Answer.{Ends}
use Rattle.bitmap_input.specs.Reader.{IfSays, ahead, is_later}
use Rattle.bitmap_input.specs.Reading.{cause_of_fault}
use Rattle.bitmap_input.specs.declared.fault.InFault.TheVariants as fault
use Rattle.file_documents.specs.Inner.Tasks.{manner_of}
use Rattle.file_documents.proofs.Differing.{end_not_read_fault, end_not_too_many, fault_not_too_many, same_fault, trailing_not_read_fault, trailing_not_too_many}
use Rattle.file_documents.proofs.Reading.{fault_counts, fault_takes, given_page, mapped, reads_page, takes_ending, takes_page}
use Rattle.file_documents.proofs.pages.read_next.Goals as goal

-- a page was read
pub returns-in-Page-clause-answer : goal.returns-in-Page-clause-answer
returns-in-Page-clause-answer g c =
    let gives = rw (c.in-Page.is) at c.in-Ok.ensures.page in
    let tells = rw (c.in-Page.is) at c.in-Ok.ensures.told_page in (
      reads_page (manner_of g.J.PageJob c.args.task.now) c.args.reader.now c.next.new.self (g.I.Inputs.files c.args.inputs.now) (g.I.Inputs.files c.next.new.inputs) _ gives tells c.in-Ok.ensures.still_at_end c.in-Ok.ensures.within,
      given_page (manner_of g.J.PageJob c.args.task.now) c.args.reader.now c.next.new.self (g.I.Inputs.files c.args.inputs.now) (g.I.Inputs.files c.next.new.inputs) _ gives,
      c.in-Ok.ensures.steady,
      c.in-Ok.ensures.stays_opened,
      c.in-Ok.ensures.still_at_end,
    )

pub returns-in-Page-clause-takes : goal.returns-in-Page-clause-takes
returns-in-Page-clause-takes g c =
    let gives = rw (c.in-Page.is) at c.in-Ok.ensures.page in
    record { needed = takes_page (manner_of g.J.PageJob c.args.task.now) c.args.reader.now c.next.new.self (g.I.Inputs.files c.args.inputs.now) (g.I.Inputs.files c.next.new.inputs) _ gives; openings = c.in-Ok.ensures.same_openings }

-- the pages end
pub returns-in-End-clause-answer : goal.returns-in-End-clause-answer
returns-in-End-clause-answer g c = (
  record {
    ends = mapped (unread (g.I.Inputs.files c.args.inputs.now)) (ahead c.args.reader.now) (λ all. front (is_later c.args.reader.now) all ≡ Ends End) (rw (c.in-End.is) at c.in-Ok.ensures.told_ending);
    read_fault = λ e. absurd (end_not_read_fault e);
    faults = c.in-Ok.ensures.steady;
  },
  end_not_too_many,
)

pub returns-in-End-clause-takes : goal.returns-in-End-clause-takes
returns-in-End-clause-takes g c = record { needed = takes_ending End c.args.reader.now c.next.new.self (g.I.Inputs.files c.args.inputs.now) (g.I.Inputs.files c.next.new.inputs) (rw c.in-End.is at c.in-Ok.ensures.ending); openings = c.in-Ok.ensures.same_openings }

pub returns-in-Trailing-clause-answer : goal.returns-in-Trailing-clause-answer
returns-in-Trailing-clause-answer g c = (
  record {
    ends = mapped (unread (g.I.Inputs.files c.args.inputs.now)) (ahead c.args.reader.now) (λ all. front (is_later c.args.reader.now) all ≡ Ends Trailing) (rw (c.in-Trailing.is) at c.in-Ok.ensures.told_ending);
    read_fault = λ e. absurd (trailing_not_read_fault e);
    faults = c.in-Ok.ensures.steady;
  },
  trailing_not_too_many,
)

pub returns-in-Trailing-clause-takes : goal.returns-in-Trailing-clause-takes
returns-in-Trailing-clause-takes g c = record { needed = takes_ending Trailing c.args.reader.now c.next.new.self (g.I.Inputs.files c.args.inputs.now) (g.I.Inputs.files c.next.new.inputs) (rw c.in-Trailing.is at c.in-Ok.ensures.ending); openings = c.in-Ok.ensures.same_openings }

-- why the reader gave no page
pub returns-in-Err-clause-answer : goal.returns-in-Err-clause-answer
returns-in-Err-clause-answer g c = (
  record {
    ends = mapped (unread (g.I.Inputs.files c.args.inputs.now)) (ahead c.args.reader.now)
        (λ all. IfSays (cause_of_fault c.in-Err.fault) (λ ending. front (is_later c.args.reader.now) all ≡ Ends ending)) c.in-Err.ensures.told_ending;
    read_fault = λ e. c.in-Err.ensures.read_fault (ap Err (same_fault c.in-Err.fault fault.ReadFault e));
    faults = fault_counts c.in-Err.fault (g.I.Inputs.faults c.args.inputs.now) (g.I.Inputs.faults c.next.new.inputs) c.in-Err.ensures.steady_ending (λ e. c.in-Err.ensures.cause (ap Err e));
  },
  fault_not_too_many c.in-Err.fault,
)

pub returns-in-Err-clause-takes : goal.returns-in-Err-clause-takes
returns-in-Err-clause-takes g c = record {
  needed = fault_takes c.in-Err.fault c.args.reader.now c.next.new.self (g.I.Inputs.files c.args.inputs.now) (g.I.Inputs.files c.next.new.inputs) c.in-Err.ensures.ending (λ e. c.in-Err.ensures.read_fault (ap Err e)) (λ e. c.in-Err.ensures.no_memory (ap Err e));
  openings = c.in-Err.ensures.same_openings;
}
