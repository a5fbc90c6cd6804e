use Rattle.std.proofs.Common.{◌++◌, refl, rules}
use Rattle.bitmap_input.specs.Front.Magic.{PlainBits, RawBits, PlainSamples, RawSamples}
use Rattle.bitmap_input.proofs.Behind.{reads_unclaimed, plain_bits_unclaimed, raw_bits_unclaimed, plain_samples_unclaimed, raw_samples_unclaimed}
use Rattle.bitmap_input.proofs.ComposedSteps.{reads_as}
use Rattle.bitmap_input.proofs.Formats.{plain_bits_body}
use Rattle.bitmap_input.proofs.StepEffects.{leaving}
use Rattle.bitmap_input.proofs.body.read_body.Goals as goal

pub returns-in-PlainBits : goal.returns-in-PlainBits
returns-in-PlainBits g c = record {
  reads = leaving (search rules)
      (rw (c.claiming_none.ensures, c.in-PlainBits.is) (reads_unclaimed c.args.tone.now.level c.args.tone.now.invert PlainBits plain_bits_unclaimed (reads_as (λ more. plain_bits_body c.args.tone.now.invert (c.args.buffer.now.bytes ++ more)) (c.read_bits_body.ensures.reads c.args.tone.now.level c.args.tone.now.invert (λ _. refl)))));
}

pub returns-in-RawBits : goal.returns-in-RawBits
returns-in-RawBits g c = record {
  reads = leaving (search rules)
      (rw (c.claiming_none-in-RawBits.ensures, c.in-RawBits.is) (reads_unclaimed c.args.tone.now.level c.args.tone.now.invert RawBits raw_bits_unclaimed (c.read_bits_body-in-RawBits.ensures.reads c.args.tone.now.level c.args.tone.now.invert (λ _. refl))));
}

pub returns-in-PlainSamples : goal.returns-in-PlainSamples
returns-in-PlainSamples g c = record {
  reads = leaving (search rules)
      (rw (c.claiming_none-in-PlainSamples.ensures, c.in-PlainSamples.is) (reads_unclaimed c.args.tone.now.level c.args.tone.now.invert (PlainSamples c.in-PlainSamples.channels) (plain_samples_unclaimed c.in-PlainSamples.channels) c.read_samples_body.ensures.reads.step));
}

pub returns-in-RawSamples : goal.returns-in-RawSamples
returns-in-RawSamples g c = record {
  reads = leaving (search rules)
      (rw (c.claiming_none-in-RawSamples.ensures, c.in-RawSamples.is) (reads_unclaimed c.args.tone.now.level c.args.tone.now.invert (RawSamples c.in-RawSamples.channels) (raw_samples_unclaimed c.in-RawSamples.channels) c.read_samples_body-in-RawSamples.ensures.reads.step));
}
