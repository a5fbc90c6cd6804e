use Rattle.std.proofs.Common.{rules, refl, ◌≡◌, true, false}
use Rattle.std.proofs.lemmas.Result.{err_from_is_err_and}
use Rattle.bitmap_input.specs.Cut.Kind.{Truncated}
use Rattle.bitmap_input.specs.Cut.FileEnd.{Refused}
use Rattle.bitmap_input.specs.PageParts.{is_digit, number}
use Rattle.bitmap_input.specs.Inner.Number.{kind_at}
use Rattle.bitmap_input.proofs.AddedBytes.{some_gap_stays}
use Rattle.bitmap_input.proofs.ComposedSteps.{reads_on, reads_stop, reads_look, reads_fault, reads_end, reads_refused}
use Rattle.bitmap_input.proofs.Digits.{number_at, no_number_at}
use Rattle.bitmap_input.proofs.StepEffects.{leaving}
use Rattle.bitmap_input.proofs.number.read_number_behind_gap.Goals as goal

pub returns-in_err-skip_gap-clause-reads : goal.returns-in_err-skip_gap-clause-reads
returns-in_err-skip_gap-clause-reads g c =
    leaving (search rules)
    (let p = err_from_is_err_and c.from_residual.result c.from_residual.ensures.1 in
    rw (p.1, p.2) (reads_stop (λ _. number (kind_at c.args.section)) c.in_err-skip_gap.ensures.reads.step))

pub returns-then-is_digit-clause-reads : goal.returns-then-is_digit-clause-reads
returns-then-is_digit-clause-reads g c =
    leaving (search rules)
    (let look = c.in-Byte.ensures.looks in
    let test : is_digit c.in-Byte.byte ≡ true = search rules in
    reads_on (some_gap_stays (kind_at c.args.section)) c.in_ok-skip_gap.ensures.reads.step
    (λ _ _. reads_look {part = number (kind_at c.args.section)} refl look.1 look.0
    (λ xs. number_at (kind_at c.args.section) c.in-Byte.byte xs test) c.read_digits.ensures.reads.step))

pub returns-in-Fault-clause-reads : goal.returns-in-Fault-clause-reads
returns-in-Fault-clause-reads g c =
    leaving (search rules)
    (let look = c.in-Fault.ensures.looks in
    reads_on (some_gap_stays (kind_at c.args.section)) c.in_ok-skip_gap.ensures.reads.step
    (λ _ _. reads_fault {part = number (kind_at c.args.section)} refl look.0 look.1 look.2 look.3))

pub returns-else-is_digit-clause-reads : goal.returns-else-is_digit-clause-reads
returns-else-is_digit-clause-reads g c =
    leaving (search rules)
    (let look = c.in-Byte.ensures.looks in
    let test : is_digit c.in-Byte.byte ≡ false = search rules in
    reads_on (some_gap_stays (kind_at c.args.section)) c.in_ok-skip_gap.ensures.reads.step
    (λ _ _. reads_refused {part = number (kind_at c.args.section)} (Refused (kind_at c.args.section)) refl look.1 look.0
    (λ xs. no_number_at (kind_at c.args.section) c.in-Byte.byte xs test) c.fault.ensures.cause))

pub returns-in-End-clause-reads : goal.returns-in-End-clause-reads
returns-in-End-clause-reads g c =
    leaving (search rules)
    (let look = c.in-End.ensures.looks in
    reads_on (some_gap_stays (kind_at c.args.section)) c.in_ok-skip_gap.ensures.reads.step
    (λ _ _. reads_end {part = number (kind_at c.args.section)} (Refused Truncated) refl refl look.0 look.1.0 look.1.1))
