use Rattle.std.proofs.Common.{refl, rules}
use Rattle.bitmap_input.specs.Cut.Kind.{UnknownFormat}
use Rattle.bitmap_input.specs.Cut.FileEnd.{End, Refused}
use Rattle.bitmap_input.specs.Front.{magic}
use Rattle.bitmap_input.proofs.ComposedSteps.{reads_pass, reads_end, reads_fault}
use Rattle.bitmap_input.proofs.Headers.{magic_at, magic_of_none, later_ends, first_ends}
use Rattle.bitmap_input.proofs.StepEffects.{leaving}
use Rattle.bitmap_input.proofs.header.read_magic.Goals as goal

pub returns-in-Byte-clause-reads : goal.returns-in-Byte-clause-reads
returns-in-Byte-clause-reads g c =
    leaving (search rules)
    (let look = c.in-Byte.ensures.looks in
    reads_pass (magic_of_none c.args.later) look.1 look.0 c.pass.ensures.bytes c.pass.ensures.ended (magic_at c.args.later c.in-Byte.first)
    c.read_magic_behind.ensures.reads.step)

pub returns-then-later-clause-reads : goal.returns-then-later-clause-reads
returns-then-later-clause-reads g c =
    leaving (search rules)
    (let look = c.in-End.ensures.looks in
    reads_end {part = magic c.args.later} End (later_ends c.args.later c.if-later.true) refl look.0 look.1.0 look.1.1)

pub returns-else-later-clause-reads : goal.returns-else-later-clause-reads
returns-else-later-clause-reads g c =
    leaving (search rules)
    (let look = c.in-End.ensures.looks in
    reads_end {part = magic c.args.later} (Refused UnknownFormat) (first_ends c.args.later c.if-later.false) refl look.0 look.1.0 look.1.1)

pub returns-in-Fault-clause-reads : goal.returns-in-Fault-clause-reads
returns-in-Fault-clause-reads g c =
    leaving (search rules)
    (let look = c.in-Fault.ensures.looks in
    reads_fault {part = magic c.args.later} (magic_of_none c.args.later) look.0 look.1 look.2 look.3)
