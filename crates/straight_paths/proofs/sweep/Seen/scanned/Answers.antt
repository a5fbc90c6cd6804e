use Rattle.std.proofs.Common.{◌≡◌, ℕ, ◌-◌, min, IfSome, subst, rules, arith}
use Rattle.pt_core.specs.declared.point.Point.{Point}
use Rattle.path_cones.specs.Inner.Strips.{HoldsPath}
use Rattle.path_cones.specs.Inner.Tails.{limit_of}
use Rattle.path_cones.proofs.Ends.{clear_at, path_at_place}
use Rattle.straight_paths.proofs.Windows.{seen_earlier}
use Rattle.straight_paths.proofs.sweep.Seen.scanned.Goals as goal

pub earlier-tail-requires-clause-clear : goal.earlier-tail-requires-clause-clear
earlier-tail-requires-clause-clear c =
    let before = c.requires.tail.at_least in
    let at : c.min-most.result ≡ min (limit_of c.args.track.now) (c.args.self.tail.end - c.args.index) = search rules in
    clear_at c.args.track.now c.place-place.result c.args.index c.args.self.tail.end c.min-most.result c.clear_steps-scan.result.steps
    c.place-place.ensures.at (omega arith) at c.clear_steps-scan.ensures.steps

pub strip_from-requires-clause-subpath : goal.strip_from-requires-clause-subpath
strip_from-requires-clause-subpath c =
    let most = c.earlier-tail.ensures.tail.at_most in
    let within = c.place-place.ensures.within in
    record { in_lap = within; short_of_lap = omega arith; few = omega arith }

pub returns : goal.returns
returns c =
    let P : (ℕ → Point) → Type 0 = λ path. IfSome c.strip_from.result (λ strip. HoldsPath strip path (c.earlier-tail.result.end - c.args.index)) in
    seen_earlier c.args.track.now c.args.last c.args.index c.args.self (record { tail = c.earlier-tail.result; strip = c.strip_from.result })
    c.requires c.earlier-tail.ensures.tail c.earlier-tail.ensures.same_last c.earlier-tail.ensures.no_later
    (subst P (path_at_place c.args.track.now c.place-place.result c.args.index c.place-place.ensures.at) c.strip_from.ensures)
