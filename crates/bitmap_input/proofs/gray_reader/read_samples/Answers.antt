use Rattle.std.proofs.Common.{ap, sym, ◌∙◌, map, rules}
use Rattle.bitmap_input.specs.GrayRows.{lowered}
use Rattle.bitmap_input.proofs.ComposedSteps.{reads_weaken}
use Rattle.bitmap_input.proofs.SampleBytes.{lowered_row}
use Rattle.bitmap_input.proofs.StepEffects.{leaving}
use Rattle.bitmap_input.proofs.gray_reader.read_samples.Goals as goal

pub returns-then-plain-clause-reads : goal.returns-then-plain-clause-reads
returns-then-plain-clause-reads g c =
    leaving (search rules)
    (rw c.if-plain.true c.read_plain_gray_row.ensures.reads.step)

pub returns-else-plain-clause-reads : goal.returns-else-plain-clause-reads
returns-else-plain-clause-reads g c =
    leaving (search rules)
    (rw c.if-plain.false (reads_weaken
    (λ _ values same. sym (lowered_row c.read_raw_gray_row.new.row c.type_inv.row) ∙ ap (map lowered) same) c.read_raw_gray_row.ensures.reads.step))
