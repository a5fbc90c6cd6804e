use Rattle.std.proofs.Common.{arith, rules, ◌≤◌, length}
use Rattle.bitmap_input.proofs.Blocks.{block_begins, block_is_short, block_fails, block_ends, block_goes_on, filled_within}
use Rattle.bitmap_input.proofs.StepEffects.{leaving}
use Rattle.bitmap_input.proofs.raw.read_block.Goals as goal

pub loop-done-init : goal.loop-done-init
loop-done-init g c = record {
  so_far = block_begins (length c.args.row.now) c.args.buffer.now (g.I.Inputs.files c.args.inputs.now) c.args.row.now;
  within = omega arith;
  leaves = search rules;
}

pub loop-done-preserved : goal.loop-done-preserved
loop-done-preserved g c =
    let look = c.in-Byte.ensures.looks in
    let fits : c.give-done.result ≤ length c.give-done.new.to = omega (arith, c.give-done.auto.to) in
    record {
      so_far = block_goes_on c.loop-done.done c.give-done.result c.loop-done.row c.give-done.new.to c.loop-done.invariant.so_far (omega (arith, c.loop-done.auto.row)) look.0
          (omega arith) fits c.give-done.ensures.copied c.give-done.ensures.bytes c.give-done.ensures.ended;
      within = filled_within c.loop-done.done c.give-done.result c.loop-done.row c.give-done.new.to (omega arith) fits;
      leaves = search rules;
    }

pub returns-in-End-clause-reads : goal.returns-in-End-clause-reads
returns-in-End-clause-reads g c =
    leaving (search rules)
    (let look = c.in-End.ensures.looks in
    block_is_short _ c.loop-done.done c.loop-done.row _ c.loop-done.invariant.so_far c.loop-done.auto.row (omega arith) look.0 look.1.0 look.1.1)

pub returns-in-Fault-clause-reads : goal.returns-in-Fault-clause-reads
returns-in-Fault-clause-reads g c =
    leaving (search rules)
    (let look = c.in-Fault.ensures.looks in
    block_fails c.loop-done.invariant.so_far (omega (arith, c.loop-done.auto.row)) look.0 look.1 look.2 look.3)

pub returns-clause-reads : goal.returns-clause-reads
returns-clause-reads g c =
    leaving (search rules)
    (block_ends c.loop-done.invariant.so_far c.loop-done.auto.row (omega (arith, c.loop-done.auto.row)))
