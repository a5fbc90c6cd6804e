use Rattle.std.proofs.Common.{◌≡◌, ℕ, ◌+◌, subst, sym, arith}
use Rattle.path_cones.specs.Inner.Cones.{HoldsWay}
use Rattle.path_cones.specs.Straight.{path_from}
use Rattle.path_cones.specs.Inner.Tails.{way_along}
use Rattle.path_cones.proofs.first.last_held.Goals as goal

pub returns-clause-next : goal.returns-clause-next
returns-clause-next c =
    let order = c.loop-last.invariant.order in
    let e : c.loop-last.last + 1 ≡ c.loop-last.beyond = omega arith in
    subst (λ (n : ℕ). ¬ HoldsWay c.args.cone (way_along (path_from c.args.track.now c.args.first) n)) (sym e)
    c.loop-last.invariant.not_held
