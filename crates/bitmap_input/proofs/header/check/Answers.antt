use Rattle.std.proofs.Common.{◌<◌, ◌≡◌, ◌⊎◌, arith, rules}
use Rattle.bitmap_input.proofs.Headers.{checks_zero, checks_large}
use Rattle.bitmap_input.proofs.header.check.Goals as goal
use Rattle.pt_core.specs.declared.limits.TheConstants.{LONGEST_SIDE}

pub returns-then-width-eq0-clause-checks : goal.returns-then-width-eq0-clause-checks
returns-then-width-eq0-clause-checks c =
    let zero : (c.args.width ≡ 0) ⊎ (c.args.height ≡ 0) = search rules in
    checks_zero c.args.width c.args.height zero

pub returns-then-width-gt-LONGEST_SIDE-clause-checks : goal.returns-then-width-gt-LONGEST_SIDE-clause-checks
returns-then-width-gt-LONGEST_SIDE-clause-checks c =
    let large : (LONGEST_SIDE < c.args.width) ⊎ (LONGEST_SIDE < c.args.height) = search rules in
    let some : 0 < c.args.width = omega arith in
    let some_height : 0 < c.args.height = omega arith in
    checks_large c.args.width c.args.height some some_height large
