use Rattle.std.proofs.Common.{refl, rules}
use Rattle.bitmap_input.specs.Cut.Kind.{Truncated}
use Rattle.bitmap_input.specs.Cut.FileEnd.{Refused}
use Rattle.bitmap_input.specs.PageParts.{some_gap}
use Rattle.bitmap_input.specs.Inner.Number.{kind_at}
use Rattle.bitmap_input.proofs.ComposedSteps.{reads_look, reads_fault, reads_end, reads_refused}
use Rattle.bitmap_input.proofs.Headers.{some_gap_at, no_gap_at}
use Rattle.bitmap_input.proofs.StepEffects.{leaving}
use Rattle.bitmap_input.proofs.number.skip_gap.Goals as goal

pub returns-in-Some-clause-reads : goal.returns-in-Some-clause-reads
returns-in-Some-clause-reads g c =
    leaving (search rules)
    (let look = c.in-Byte.ensures.looks in
    reads_look {part = some_gap (kind_at c.args.section)} refl look.1 look.0 (λ xs. some_gap_at (kind_at c.args.section) c.in-Byte.byte _ xs (c.in-Some.ensures xs)) c.skip.ensures.reads.step)

pub returns-in-Fault-clause-reads : goal.returns-in-Fault-clause-reads
returns-in-Fault-clause-reads g c =
    leaving (search rules)
    (let look = c.in-Fault.ensures.looks in reads_fault {part = some_gap (kind_at c.args.section)} refl look.0 look.1 look.2 look.3)

pub returns-in-None-clause-reads : goal.returns-in-None-clause-reads
returns-in-None-clause-reads g c =
    leaving (search rules)
    (let look = c.in-Byte.ensures.looks in
    reads_refused {part = some_gap (kind_at c.args.section)} (Refused (kind_at c.args.section)) refl look.1 look.0
    (λ xs. no_gap_at (kind_at c.args.section) c.in-Byte.byte xs (c.in-None.ensures xs)) c.fault.ensures.cause)

pub returns-in-End-clause-reads : goal.returns-in-End-clause-reads
returns-in-End-clause-reads g c =
    leaving (search rules)
    (let look = c.in-End.ensures.looks in
    reads_end {part = some_gap (kind_at c.args.section)} (Refused Truncated) refl refl look.0 look.1.0 look.1.1)
