use Rattle.std.proofs.Common.{◌≡◌, true, false, refl, ◌∷◌, [], rules}
use Rattle.bitmap_input.specs.Cut.Kind.{BadHeader, Truncated}
use Rattle.bitmap_input.specs.Cut.FileEnd.{Refused}
use Rattle.bitmap_input.specs.PageParts.{is_space, space}
use Rattle.bitmap_input.specs.Cut.Cut.{Takes}
use Rattle.bitmap_input.proofs.ComposedSteps.{reads_pass, reads_value, reads_refused, reads_end, reads_fault}
use Rattle.bitmap_input.proofs.StepEffects.{leaving}
use Rattle.bitmap_input.proofs.header.skip_space.Goals as goal

pub returns-then-is_space-clause-reads : goal.returns-then-is_space-clause-reads
returns-then-is_space-clause-reads g c =
    leaving (search rules)
    (let look = c.in-Byte.ensures.looks in
    let test : is_space c.in-Byte.byte ≡ true = search rules in
    reads_pass {other = λ bytes. Takes false (c.in-Byte.byte ∷ []) bytes} refl look.1 look.0 c.pass.ensures.bytes c.pass.ensures.ended (λ xs. rw test refl) (reads_value tt))

pub returns-else-is_space-clause-reads : goal.returns-else-is_space-clause-reads
returns-else-is_space-clause-reads g c =
    leaving (search rules)
    (let look = c.in-Byte.ensures.looks in
    let test : is_space c.in-Byte.byte ≡ false = search rules in
    reads_refused {part = space} (Refused BadHeader) refl look.1 look.0 (λ xs. rw test refl) refl)

pub returns-in-End-clause-reads : goal.returns-in-End-clause-reads
returns-in-End-clause-reads g c =
    leaving (search rules)
    (let look = c.in-End.ensures.looks in reads_end {part = space} (Refused Truncated) refl refl look.0 look.1.0 look.1.1)

pub returns-in-Fault-clause-reads : goal.returns-in-Fault-clause-reads
returns-in-Fault-clause-reads g c =
    leaving (search rules)
    (let look = c.in-Fault.ensures.looks in reads_fault {part = space} refl look.0 look.1 look.2 look.3)
