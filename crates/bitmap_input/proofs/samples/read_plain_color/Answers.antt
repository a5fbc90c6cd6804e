use Rattle.std.proofs.Common.{◌+◌, false, rules}
use Rattle.std.proofs.lemmas.Result.{err_from_is_err_and}
use Rattle.bitmap_input.specs.Cut.{◌>>=◌}
use Rattle.bitmap_input.specs.Cut.Cut.{Takes}
use Rattle.bitmap_input.specs.Samples.{plain_sample}
use Rattle.bitmap_input.specs.Inner.Shading.{IsCappedBrightness}
use Rattle.bitmap_input.specs.declared.channels.Channels.TheVariants.{Color}
use Rattle.bitmap_input.proofs.AddedBytes.{plain_sample_stays}
use Rattle.bitmap_input.proofs.ComposedSteps.{reads_on, reads_stop, reads_made}
use Rattle.bitmap_input.proofs.SampleBytes.{capped_sum}
use Rattle.bitmap_input.proofs.StepEffects.{leaving}
use Rattle.bitmap_input.proofs.samples.read_plain_color.Goals as goal

pub returns-in_err-red : goal.returns-in_err-red
returns-in_err-red g c = record {
  reads = leaving (search rules)
      (let p = err_from_is_err_and c.from_residual.result c.from_residual.ensures.1 in
      rw (p.1, p.2) (reads_stop (λ r rest. plain_sample rest >>= λ g rest. plain_sample rest >>= λ b rest. Takes false (r, g, b) rest) c.in_err-red.ensures.reads.step));
}

pub returns-in_err-green : goal.returns-in_err-green
returns-in_err-green g c = record {
  reads = leaving (search rules)
      (let p = err_from_is_err_and c.from_residual-in_err-green.result c.from_residual-in_err-green.ensures.1 in
      rw (p.1, p.2) (reads_on plain_sample_stays c.in_ok-red.ensures.reads.step
      (λ r _. reads_stop (λ g rest. plain_sample rest >>= λ b rest. Takes false (r, g, b) rest) c.in_err-green.ensures.reads.step)));
}

pub returns-in_err-blue : goal.returns-in_err-blue
returns-in_err-blue g c = record {
  reads = leaving (search rules)
      (let p = err_from_is_err_and c.from_residual-in_err-blue.result c.from_residual-in_err-blue.ensures.1 in
      rw (p.1, p.2) (reads_on plain_sample_stays c.in_ok-red.ensures.reads.step
      (λ r _. reads_on plain_sample_stays c.in_ok-green.ensures.reads.step
      (λ g _. reads_stop (λ b rest. Takes false (r, g, b) rest) c.in_err-blue.ensures.reads.step))));
}

pub returns : goal.returns
returns g c = record {
  reads = leaving (search rules)
      (reads_on plain_sample_stays c.in_ok-red.ensures.reads.step
      (λ r is_red. reads_on plain_sample_stays c.in_ok-green.ensures.reads.step
      (λ g is_green. reads_made {js = IsCappedBrightness Color} (λ b. (r, g, b)) (c.in_ok-red.red + c.in_ok-green.green + c.in_ok-blue.blue) (λ b is_blue. capped_sum _ _ _ r g b is_red is_green is_blue) c.in_ok-blue.ensures.reads.step)));
}
