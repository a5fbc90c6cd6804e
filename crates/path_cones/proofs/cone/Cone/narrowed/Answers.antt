use Rattle.std.proofs.Common.{subst, rules}
use Rattle.path_cones.specs.Inner.Cones.{IsSmall, IsBetween, IsProper, IsSound, HoldsWay}
use Rattle.path_cones.specs.declared.cone.Cone.{Cone}
use Rattle.path_cones.proofs.Keeping.{first_proper, first_both, next_proper, next_both}
use Rattle.path_cones.proofs.Nearness.{small_is_near}
use Rattle.path_cones.proofs.cone.Cone.narrowed.Goals as goal

pub returns-then-is_small-clause-both : goal.returns-then-is_small-clause-both
returns-then-is_small-clause-both c =
    let small : IsSmall c.args.way = search rules in
    λ other. (λ h. (h, small_is_near c.args.way other small), λ h. h.0)

pub returns-in-Open-clause-sound : goal.returns-in-Open-clause-sound
returns-in-Open-clause-sound c =
    let far : ¬ IsSmall c.args.way = search rules in
    first_proper c.args.way _ _ far c.low-low.ensures.value c.high-high.ensures.value
    c.low-low.ensures.short c.high-high.ensures.short

pub returns-in-Open-clause-both : goal.returns-in-Open-clause-both
returns-in-Open-clause-both c =
    let far : ¬ IsSmall c.args.way = search rules in
    first_both c.args.way _ _ far c.low-low.ensures.value c.high-high.ensures.value
    c.args.self c.in-Open.is

pub returns-in-Between-clause-sound : goal.returns-in-Between-clause-sound
returns-in-Between-clause-sound c =
    let far : ¬ IsSmall c.args.way = search rules in
    let proper : IsProper c.in-Between.old_low c.in-Between.old_high = subst IsSound c.in-Between.is c.requires.sound in
    let P : Cone → Type 0 = λ cone. HoldsWay cone c.args.way in
    let held : IsBetween c.in-Between.old_low c.in-Between.old_high c.args.way = subst P c.in-Between.is c.requires.held in
    next_proper c.args.way _ _ far c.low-low.ensures.value c.high-high.ensures.value
    _ _ _ _ proper held c.more_left.ensures c.more_right.ensures
    c.low-low.ensures.short c.high-high.ensures.short

pub returns-in-Between-clause-both : goal.returns-in-Between-clause-both
returns-in-Between-clause-both c =
    let far : ¬ IsSmall c.args.way = search rules in
    let proper : IsProper c.in-Between.old_low c.in-Between.old_high = subst IsSound c.in-Between.is c.requires.sound in
    let P : Cone → Type 0 = λ cone. HoldsWay cone c.args.way in
    let held : IsBetween c.in-Between.old_low c.in-Between.old_high c.args.way = subst P c.in-Between.is c.requires.held in
    next_both c.args.way _ _ far c.low-low.ensures.value c.high-high.ensures.value
    _ _ _ _ proper held c.more_left.ensures c.more_right.ensures
    c.args.self c.in-Between.is
