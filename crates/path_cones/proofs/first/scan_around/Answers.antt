use Rattle.std.proofs.Common.{◌≡◌, subst, rules, arith}
use Rattle.path_cones.specs.Straight.{path_from}
use Rattle.path_cones.specs.Inner.Cones.{HoldsWay, IsClear}
use Rattle.path_cones.proofs.Clear.{next_holds, next_clear, ends_within}
use Rattle.path_cones.proofs.first.scan_around.Goals as goal

pub loop-steps-preserved : goal.loop-steps-preserved
loop-steps-preserved c =
    let s = c.loop-steps.steps in
    let next = c.run_end-next.result in
    let path = path_from c.args.track.now c.args.first in
    let inv = c.loop-steps.invariant in
    let more = c.run_end-next.ensures.later in
    let run = c.run_end-next.ensures.run in
    let within = c.run_end-next.ensures.within in
    let held : HoldsWay c.loop-steps.cone c.way-way.result = search rules in
    record {
      within = omega arith;
      sound = c.narrowed-cone.ensures.sound;
      holds = next_holds path s next c.loop-steps.cone c.way-way.result c.way-way.ensures.value more run inv.holds
          c.narrowed-cone.result c.narrowed-cone.ensures.both;
      clear = next_clear path s next c.loop-steps.cone c.way-way.result c.way-way.ensures.value more run inv.holds inv.clear held;
    }

pub returns-then-not-holds-clause-steps : goal.returns-then-not-holds-clause-steps
returns-then-not-holds-clause-steps c =
    let s = c.loop-steps.steps in
    let next = c.run_end-next.result in
    let path = path_from c.args.track.now c.args.first in
    let inv = c.loop-steps.invariant in
    let later = c.run_end-next.ensures.later in
    let run = c.run_end-next.ensures.run in
    let within = c.run_end-next.ensures.within in
    ends_within path s next c.last_held-last.result c.args.most c.loop-steps.cone
    c.last_held-last.ensures.at_least c.last_held-last.ensures.below (omega arith) run inv.holds inv.clear
    c.last_held-last.ensures.last c.last_held-last.ensures.next

pub returns-clause-steps : goal.returns-clause-steps
returns-clause-steps c =
    let inv = c.loop-steps.invariant in
    let e : c.loop-steps.steps ≡ c.args.most = omega (arith, inv.within) in
    record {
      within = omega arith;
      clear = subst (IsClear (path_from c.args.track.now c.args.first)) e inv.clear;
      no_more = λ n m k. m;
    }
