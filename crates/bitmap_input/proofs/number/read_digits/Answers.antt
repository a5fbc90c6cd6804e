use Rattle.std.proofs.Common.{true, false, arith, rules, ◌≡◌, refl, ℕ, List}
use Rattle.bitmap_input.specs.Cut.Cut.{Takes}
use Rattle.bitmap_input.specs.PageParts.{run_length, is_digit, value}
use Rattle.bitmap_input.proofs.ComposedSteps.{reads_map, reads_stop}
use Rattle.bitmap_input.proofs.ByteRuns.{run_begins, run_ends_at, run_ends_last, run_fails, run_is_long, run_goes_on}
use Rattle.bitmap_input.proofs.Digits.{value_more, capped_more}
use Rattle.bitmap_input.proofs.StepEffects.{leaving}
use Rattle.bitmap_input.proofs.number.read_digits.Goals as goal

pub loop-n-init : goal.loop-n-init
loop-n-init g c = record {
  so_far = run_begins (run_length is_digit) c.args.buffer.now (g.I.Inputs.files c.args.inputs.now);
  number = refl;
  most = omega arith;
  leaves = search rules;
}

pub returns-then-not-is_digit-clause-reads : goal.returns-then-not-is_digit-clause-reads
returns-then-not-is_digit-clause-reads g c =
    leaving (search rules)
    (let s = c.loop-n.invariant.so_far in
    let look = c.in-Byte.ensures.looks in
    let test : is_digit c.in-Byte.byte ≡ false = search rules in
    reads_map (value 0)
    (λ y a (is, same). rw (is, same) c.loop-n.invariant.number)
    (run_ends_at (run_length is_digit) (run_length is_digit) c.args.buffer.now c.loop-n.buffer c.look.new.self
    (g.I.Inputs.files c.args.inputs.now) (g.I.Inputs.files c.loop-n.inputs) (g.I.Inputs.files c.look.new.inputs) c.loop-n.n s
    c.loop-n.value c.in-Byte.byte look.1.0 look.0 look.1.1 refl (λ xs. rw test refl) (omega arith)))

pub returns-in-End-clause-reads : goal.returns-in-End-clause-reads
returns-in-End-clause-reads g c =
    leaving (search rules)
    (let s = c.loop-n.invariant.so_far in
    let look = c.in-End.ensures.looks in
    reads_map (value 0)
    (λ y a (is, same). rw (is, same) c.loop-n.invariant.number)
    (run_ends_last (run_length is_digit) (run_length is_digit) c.args.buffer.now c.loop-n.buffer c.look.new.self
    (g.I.Inputs.files c.args.inputs.now) (g.I.Inputs.files c.loop-n.inputs) (g.I.Inputs.files c.look.new.inputs) c.loop-n.n s
    c.loop-n.value look.0 look.1.0 look.1.1 refl (omega arith)))

pub loop-n-preserved : goal.loop-n-preserved
loop-n-preserved g c =
    let look = c.in-Byte.ensures.looks in
    let s = c.loop-n.invariant.so_far in
    let test : is_digit c.in-Byte.byte ≡ true = search rules in
    record {
      so_far = run_goes_on (run_length is_digit) (run_length is_digit) (run_length is_digit) c.args.buffer.now c.loop-n.buffer c.look.new.self c.pass.new.self
          (g.I.Inputs.files c.args.inputs.now) (g.I.Inputs.files c.loop-n.inputs) (g.I.Inputs.files c.look.new.inputs) c.loop-n.n _ c.in-Byte.byte look.1.0
          s refl (omega arith) look.0 look.1.1 (λ xs. rw test refl) c.pass.ensures.bytes c.pass.ensures.ended (omega arith);
      number = rw value_more (capped_more c.loop-n.value c.min-value.result (value 0 s.used) _ c.loop-n.invariant.number (c.min-value.ensures));
      most = omega arith;
      leaves = search rules;
    }

pub returns-in-Fault-clause-reads : goal.returns-in-Fault-clause-reads
returns-in-Fault-clause-reads g c =
    leaving (search rules)
    (let look = c.in-Fault.ensures.looks in
    reads_stop (λ ds rest. Takes false (value 0 ds) rest)
    (run_fails (run_length is_digit) (run_length is_digit) c.args.buffer.now c.loop-n.buffer c.look.new.self
    (g.I.Inputs.files c.args.inputs.now) (g.I.Inputs.files c.loop-n.inputs) (g.I.Inputs.files c.look.new.inputs) c.loop-n.n c.loop-n.invariant.so_far
    (λ (x : ℕ) (ds : List ℕ). Unit {0}) look.0 look.1 look.2 look.3 refl (omega arith)))

pub returns-clause-reads : goal.returns-clause-reads
returns-clause-reads g c =
    leaving (search rules)
    (reads_stop (λ ds rest. Takes false (value 0 ds) rest)
    (run_is_long (run_length is_digit) (run_length is_digit) c.args.buffer.now c.loop-n.buffer c.loop-n.buffer
    (g.I.Inputs.files c.args.inputs.now) (g.I.Inputs.files c.loop-n.inputs) (g.I.Inputs.files c.loop-n.inputs) c.loop-n.n c.loop-n.invariant.so_far
    (λ (x : ℕ) (ds : List ℕ). Unit {0}) (omega arith)))
