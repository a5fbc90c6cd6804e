use Rattle.std.proofs.Common.{ℤ, subst, arith}
use Rattle.path_cones.specs.Inner.Swings.{SwaysOn}
use Rattle.path_cones.proofs.Swings.{across_back, across_small, other_back, small_swing, swing_on, turn_back}
use Rattle.path_cones.proofs.swing.Swing.run_on.Goals as goal

pub across_after-across-requires-clause-small : goal.across_after-across-requires-clause-small
across_after-across-requires-clause-small c = small_swing c.args.track.now c.args.first c.args.most c.args.self c.requires.swing

pub returns-clause-swing : goal.returns-clause-swing
returns-clause-swing c =
    let s = c.args.self in
    let on = c.requires.swing in
    let before = c.requires.before in
    let later = on.later in
    let across = c.across_after-across.result in
    let is = c.across_after-across.ensures in
    let small = across_small c.args.track.now c.args.first c.args.most s on across s.next (omega arith) (omega arith) (omega arith) is in
    rw (across_back across small, turn_back c.args.track.now c.args.first c.args.most s on, other_back c.args.track.now c.args.first c.args.most s on)
    (swing_on c.args.track.now c.args.first c.args.most s on across c.corner_within.result c.on.result before is
    (subst (λ (z : ℤ). SwaysOn s.sway z s.next c.on.result) (across_back across small) c.on.ensures)
    c.corner_within.ensures.later c.corner_within.ensures.corner)
