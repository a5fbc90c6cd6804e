use Rattle.std.proofs.Common.{◌≡◌, ◌+◌, ◌-◌, ℕ, subst, arith}
use Rattle.straight_paths.specs.Inner.Sweeps.{AreEndsFrom}
use Rattle.straight_paths.proofs.Windows.{end_of_seen, one_more}
use Rattle.straight_paths.proofs.fill.held_by_scan.Goals as goal

pub returns-clause-ends : goal.returns-clause-ends
returns-clause-ends c =
    let points = c.args.track.now in
    let some = c.requires.more in
    let index = c.args.hold.index - 1 in
    let e : c.args.hold.index ≡ index + 1 = omega arith in
    let seen = c.scanned-seen.result in
    one_more points c.args.last c.args.lap index (seen.tail.end - index) c.args.steps.now
    (subst (λ (n : ℕ). AreEndsFrom points c.args.last c.args.lap n c.args.steps.now) e c.requires.ends) (omega arith)
    (end_of_seen points c.args.last index seen c.scanned-seen.ensures)
