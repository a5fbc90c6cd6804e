use Rattle.std.proofs.Common.{arith, rules, List, ℕ}
use Rattle.bitmap_input.specs.Inner.Reading.{Any}
use Rattle.bitmap_input.specs.Inner.ByteRuns.{run_size}
use Rattle.bitmap_input.proofs.ComposedSteps.{reads_weaken}
use Rattle.bitmap_input.proofs.ByteRuns.{length_of-nil, run_begins, run_ends_at, run_ends_last, run_fails, run_is_long, run_goes_on}
use Rattle.bitmap_input.proofs.StepEffects.{leaving}
use Rattle.bitmap_input.proofs.run.skip.Goals as goal

pub loop-n-init : goal.loop-n-init
loop-n-init g c = record {
  so_far = run_begins (run_size c.args.run) c.args.buffer.now (g.I.Inputs.files c.args.inputs.now);
  most = omega arith;
  leaves = search rules;
}

pub returns-in-None-clause-reads : goal.returns-in-None-clause-reads
returns-in-None-clause-reads g c =
    leaving (search rules)
    (let s = c.loop-n.invariant.so_far in
    let look = c.in-Byte.ensures.looks in
    reads_weaken (λ _ _ _. tt)
    (run_ends_at (run_size c.args.run) (run_size c.loop-n.run) c.args.buffer.now c.loop-n.buffer c.look.new.self
    (g.I.Inputs.files c.args.inputs.now) (g.I.Inputs.files c.loop-n.inputs) (g.I.Inputs.files c.look.new.inputs) c.loop-n.n s
    (tt {0}) c.in-Byte.byte look.1.0 look.0 look.1.1 (length_of-nil c.loop-n.run) c.in-None.ensures (omega arith)))

pub returns-in-End-clause-reads : goal.returns-in-End-clause-reads
returns-in-End-clause-reads g c =
    leaving (search rules)
    (let s = c.loop-n.invariant.so_far in
    let look = c.in-End.ensures.looks in
    reads_weaken (λ _ _ _. tt)
    (run_ends_last (run_size c.args.run) (run_size c.loop-n.run) c.args.buffer.now c.loop-n.buffer c.look.new.self
    (g.I.Inputs.files c.args.inputs.now) (g.I.Inputs.files c.loop-n.inputs) (g.I.Inputs.files c.look.new.inputs) c.loop-n.n s
    (tt {0}) look.0 look.1.0 look.1.1 (length_of-nil c.loop-n.run) (omega arith)))

pub loop-n-preserved : goal.loop-n-preserved
loop-n-preserved g c =
    let look = c.in-Byte.ensures.looks in
    record {
      so_far = run_goes_on (run_size c.args.run) (run_size c.loop-n.run) (run_size c.in-Some.next) c.args.buffer.now c.loop-n.buffer c.look.new.self c.pass.new.self
          (g.I.Inputs.files c.args.inputs.now) (g.I.Inputs.files c.loop-n.inputs) (g.I.Inputs.files c.look.new.inputs) c.loop-n.n _ c.in-Byte.byte look.1.0
          c.loop-n.invariant.so_far (length_of-nil c.loop-n.run) (omega arith) look.0 look.1.1 c.in-Some.ensures c.pass.ensures.bytes c.pass.ensures.ended (omega arith);
      most = omega arith;
      leaves = search rules;
    }

pub returns-in-Fault-clause-reads : goal.returns-in-Fault-clause-reads
returns-in-Fault-clause-reads g c =
    leaving (search rules)
    (let look = c.in-Fault.ensures.looks in
    run_fails (run_size c.args.run) (run_size c.loop-n.run) c.args.buffer.now c.loop-n.buffer c.look.new.self
    (g.I.Inputs.files c.args.inputs.now) (g.I.Inputs.files c.loop-n.inputs) (g.I.Inputs.files c.look.new.inputs) c.loop-n.n c.loop-n.invariant.so_far
    (Any {X = Unit {0}} {A = List ℕ}) look.0 look.1 look.2 look.3 (length_of-nil c.loop-n.run) (omega arith))

pub returns-clause-reads : goal.returns-clause-reads
returns-clause-reads g c =
    leaving (search rules)
    (run_is_long (run_size c.args.run) (run_size c.loop-n.run) c.args.buffer.now c.loop-n.buffer c.loop-n.buffer
    (g.I.Inputs.files c.args.inputs.now) (g.I.Inputs.files c.loop-n.inputs) (g.I.Inputs.files c.loop-n.inputs) c.loop-n.n c.loop-n.invariant.so_far
    (Any {X = Unit {0}} {A = List ℕ}) (omega arith))
