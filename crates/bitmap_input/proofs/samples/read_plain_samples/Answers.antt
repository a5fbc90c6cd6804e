use Rattle.std.proofs.Common.{rules}
use Rattle.bitmap_input.proofs.StepEffects.{leaving}
use Rattle.bitmap_input.proofs.samples.read_plain_samples.Goals as goal

pub returns-in-Gray : goal.returns-in-Gray
returns-in-Gray g c = record {
  reads = leaving (search rules)
      (rw c.in-Gray.is c.read_number_behind_gap.ensures.reads.step);
}
