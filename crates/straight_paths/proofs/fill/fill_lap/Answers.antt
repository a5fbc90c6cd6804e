use Rattle.std.proofs.Common.{◌≡◌, ◌+◌, ◌-◌, ℕ, subst, arith}
use Rattle.straight_paths.specs.Inner.Sweeps.{AreEndsFrom, IsSweep}
use Rattle.straight_paths.proofs.Windows.{one_more}
use Rattle.straight_paths.proofs.fill.fill_lap.Goals as goal

pub earlier-sweep-requires : goal.earlier-sweep-requires
earlier-sweep-requires c =
    let some = c.if-led-lap.false in
    let e : c.led_on-led.result.index ≡ c.led_on-led.result.index - 1 + 1 = omega arith in
    subst (λ (n : ℕ). IsSweep c.loop-index.table c.args.track.now c.args.last n c.led_on-led.result.sweep) e c.led_on-led.ensures.sweep

pub loop-index-preserved : goal.loop-index-preserved
loop-index-preserved c =
    let points = c.args.track.now in
    let led = c.led_on-led.ensures in
    let some = c.if-led-lap.false in
    let index = c.led_on-led.result.index - 1 in
    let e : c.led_on-led.result.index ≡ index + 1 = omega arith in
    let steps = c.led_on-led.new.steps in
    record {
      sweep = c.earlier-sweep.ensures;
      ends = one_more points c.args.last c.args.lap index c.count.result steps
          (subst (λ (n : ℕ). AreEndsFrom points c.args.last c.args.lap n steps) e led.ends) (omega (arith, led.ends.begun)) c.count.ensures;
    }

pub returns-clause-sweep : goal.returns-clause-sweep
returns-clause-sweep c =
    let end = c.loop-index-test.false in
    let begun = c.loop-index.invariant.ends.begun in
    let e : c.loop-index.index ≡ c.args.lap = omega arith in
    subst (λ (n : ℕ). IsSweep c.loop-index.table c.args.track.now c.args.last n c.loop-index.sweep) e c.loop-index.invariant.sweep

pub returns-clause-ends : goal.returns-clause-ends
returns-clause-ends c =
    let end = c.loop-index-test.false in
    let begun = c.loop-index.invariant.ends.begun in
    let e : c.loop-index.index ≡ c.args.lap = omega arith in
    subst (λ (n : ℕ). AreEndsFrom c.args.track.now c.args.last c.args.lap n c.loop-index.steps) e c.loop-index.invariant.ends
