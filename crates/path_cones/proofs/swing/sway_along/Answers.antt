use Rattle.std.proofs.Common.{ℤ, ◌∙◌, subst, arith}
use Rattle.path_cones.specs.Straight.{path_from}
use Rattle.path_cones.specs.Inner.Strips.{IsSway}
use Rattle.path_cones.specs.Inner.Swings.{SwaysOn}
use Rattle.path_cones.specs.declared.vector.Vector.{Vector}
use Rattle.path_cones.proofs.Swings.{across_back, across_small, small_swing, sway_to}
use Rattle.path_cones.proofs.swing.sway_along.Goals as goal

pub across_after-requires-clause-small : goal.across_after-requires-clause-small
across_after-requires-clause-small c = small_swing c.args.track.now c.args.first c.args.most c.last_swing-last.result c.last_swing-last.ensures.swing

pub returns : goal.returns
returns c =
    let points = c.args.track.now in
    let s = c.last_swing-last.result in
    let on = c.last_swing-last.ensures.swing in
    let within = on.within in
    let last = c.last_swing-last.ensures.last in
    let across = c.across_after.result in
    let is = c.across_after.ensures in
    let small = across_small points c.args.first c.args.most s on across c.args.most (omega arith) last (omega arith) is in
    subst (λ (way : Vector). IsSway way (path_from points c.args.first) c.args.most c.on.result) (c.last_swing-last.ensures.way ∙ c.start-start.ensures.way)
    (sway_to points c.args.first c.args.most s on across c.args.most c.on.result (omega arith) last (omega arith) is
    (subst (λ (z : ℤ). SwaysOn s.sway z c.args.most c.on.result) (across_back across small) c.on.ensures))
