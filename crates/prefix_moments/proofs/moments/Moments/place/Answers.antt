use Rattle.std.proofs.Common.{◌%◌, ◌<◌, length, ap, ◌∙◌, arith}
use Rattle.std.proofs.Math.Nat.{mod-lt}
use Rattle.prefix_moments.proofs.Prefixes.{same_place}
use Rattle.prefix_moments.proofs.moments.Moments.place.Goals as goal

pub place_in_lap-requires : goal.place_in_lap-requires
place_in_lap-requires c =
    let some : 0 < length c.args.self.now = omega arith in
    let at = c.in_lap.ensures ∙ ap (λ n. c.args.k % n) c.count.ensures in
    omega (arith, at, mod-lt c.args.k some)

pub returns-clause-value : goal.returns-clause-value
returns-clause-value c =
    let some : 0 < length c.args.self.now = omega (arith, c.requires) in
    let at = c.in_lap.ensures ∙ ap (λ n. c.args.k % n) c.count.ensures in
    c.place_in_lap.ensures.value ∙ same_place c.args.self.now c.args.k c.in_lap.result some at
