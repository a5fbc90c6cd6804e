use Rattle.std.proofs.Common.{rules}
use Rattle.bitmap_input.proofs.StepEffects.{leaving}
use Rattle.bitmap_input.proofs.raster.read_row.Goals as goal

pub returns-in-PlainBits-clause-reads : goal.returns-in-PlainBits-clause-reads
returns-in-PlainBits-clause-reads g c =
    leaving (search rules)
    (rw c.in-PlainBits.is c.read_plain_row.ensures.reads.step)

pub returns-in-RawBits-clause-reads : goal.returns-in-RawBits-clause-reads
returns-in-RawBits-clause-reads g c =
    leaving (search rules)
    (rw c.in-RawBits.is c.read_raw_row.ensures.reads.step)

pub returns-in-PlainSamples-clause-reads : goal.returns-in-PlainSamples-clause-reads
returns-in-PlainSamples-clause-reads g c =
    leaving (search rules)
    (rw c.in-PlainSamples.is c.read_plain_samples_row.ensures.reads.step)

pub returns-in-RawSamples-clause-reads : goal.returns-in-RawSamples-clause-reads
returns-in-RawSamples-clause-reads g c =
    leaving (search rules)
    (rw c.in-RawSamples.is c.read_raw_samples_row.ensures.reads.step)
