use Rattle.std.proofs.Common.{◌≡◌, None, ℕ, ◌+◌, min, refl, subst, rules, arith}
use Rattle.path_cones.specs.Inner.Tails.{IsAhead, limit_of}
use Rattle.straight_paths.proofs.Windows.{seen_from_window}
use Rattle.straight_paths.proofs.sweep.Seen.of_window.Goals as goal

pub returns : goal.returns
returns c =
    let points = c.args.track.now in
    let index = c.args.index in
    let ahead = c.loop-at.ahead in
    let inv = c.loop-at.invariant in
    let stop = c.loop-at-test.false in
    let low = inv.low in
    let e : c.loop-at.at ≡ index = omega arith in
    let end = index + c.min.result in
    let is : end ≡ index + min c.args.count (limit_of points) = search rules in
    seen_from_window points c.args.last index c.args.count end (record { tail = record { end = end; ahead = ahead }; strip = None }) c.requires is
    refl inv.last (subst (λ (n : ℕ). IsAhead points n ahead) e inv.ahead) refl
