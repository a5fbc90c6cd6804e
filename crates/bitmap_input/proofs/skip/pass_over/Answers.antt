use Rattle.std.proofs.Common.{arith, rules, refl}
use Rattle.bitmap_input.proofs.SkippedBytes.{skip_begins, skip_goes_on, skip_ends, skip_is_short, skip_fails}
use Rattle.bitmap_input.proofs.StepEffects.{leaving}
use Rattle.bitmap_input.proofs.skip.pass_over.Goals as goal

pub loop-left-init : goal.loop-left-init
loop-left-init g c = record {
  so_far = skip_begins c.args.buffer.now (g.I.Inputs.files c.args.inputs.now) c.args.n;
  leaves = search rules;
}

pub loop-left-preserved : goal.loop-left-preserved
loop-left-preserved g c =
    let look = c.in-Byte.ensures.looks in
    record {
      so_far = skip_goes_on c.loop-left.left c.pass_some-left.result _ c.loop-left.invariant.so_far c.loop-left-test.true look.0 c.pass_some-left.ensures.within c.pass_some-left.ensures.fits c.pass_some-left.ensures.bytes c.pass_some-left.ensures.ended refl;
      leaves = search rules;
    }

pub returns-in-End : goal.returns-in-End
returns-in-End g c = record {
  reads = leaving (search rules)
      (let look = c.in-End.ensures.looks in
      skip_is_short c.loop-left.left c.loop-left.invariant.so_far c.loop-left-test.true look.0 look.1.0 look.1.1);
}

pub returns-in-Fault : goal.returns-in-Fault
returns-in-Fault g c = record {
  reads = leaving (search rules)
      (let look = c.in-Fault.ensures.looks in
      skip_fails c.loop-left.left c.loop-left.invariant.so_far c.loop-left-test.true look.0 look.1 look.2 look.3);
}

pub returns : goal.returns
returns g c = record {
  reads = leaving (search rules)
      (skip_ends c.loop-left.invariant.so_far (omega arith));
}
