use Rattle.std.proofs.Common.{ap, refl, true, false, rules}
use Rattle.bitmap_input.specs.Cut.{is_by_end}
use Rattle.bitmap_input.specs.Cut.Cut.{Takes}
use Rattle.bitmap_input.specs.Front.{magic_behind}
use Rattle.bitmap_input.specs.Inner.Header.{magic_of}
use Rattle.bitmap_input.proofs.ComposedSteps.{reads_pass, reads_value, reads_behind, reads_end, reads_fault}
use Rattle.bitmap_input.proofs.Headers.{without_magic, no_magic_stops, no_magic_says}
use Rattle.bitmap_input.proofs.StepEffects.{leaving}
use Rattle.bitmap_input.proofs.header.read_magic_behind.Goals as goal

pub returns-in-Some-clause-reads : goal.returns-in-Some-clause-reads
returns-in-Some-clause-reads g c =
    leaving (search rules)
    (let look = c.in-Byte.ensures.looks in
    reads_pass {part = magic_behind c.args.later c.args.first} {other = Takes false (magic_of c.in-Some.format)} (ap is_by_end (no_magic_stops true c.args.later))
    look.1 look.0 c.pass.ensures.bytes c.pass.ensures.ended (λ xs. rw c.in-Some.ensures refl) (reads_value refl))

pub returns-in-None-clause-reads : goal.returns-in-None-clause-reads
returns-in-None-clause-reads g c =
    leaving (search rules)
    (let look = c.in-Byte.ensures.looks in
    reads_behind {part = magic_behind c.args.later c.args.first} (without_magic c.args.later) (ap is_by_end (no_magic_stops true c.args.later))
    look.1 look.0 c.pass.ensures.bytes c.pass.ensures.ended (λ xs. rw c.in-None.ensures (no_magic_stops false c.args.later))
    (no_magic_says c.args.later c.no_magic.result c.no_magic.ensures.stop))

pub returns-in-End-clause-reads : goal.returns-in-End-clause-reads
returns-in-End-clause-reads g c =
    leaving (search rules)
    (let look = c.in-End.ensures.looks in
    reads_end {part = magic_behind c.args.later c.args.first} (without_magic c.args.later) (no_magic_stops true c.args.later)
    (no_magic_says c.args.later c.no_magic-in-End.result c.no_magic-in-End.ensures.stop) look.0 look.1.0 look.1.1)

pub returns-in-Fault-clause-reads : goal.returns-in-Fault-clause-reads
returns-in-Fault-clause-reads g c =
    leaving (search rules)
    (let look = c.in-Fault.ensures.looks in
    reads_fault {part = magic_behind c.args.later c.args.first} (ap is_by_end (no_magic_stops true c.args.later)) look.0 look.1 look.2 look.3)
