use Rattle.std.proofs.Common.{◌<◌, ◌≡◌, ◌⊎◌, rules}
use Rattle.bitmap_input.specs.Front.{greatest_maxval}
use Rattle.bitmap_input.proofs.Headers.{checks_no_maxval}
use Rattle.bitmap_input.proofs.header.check_maxval.Goals as goal

pub returns-then-number-eq0-clause-checks : goal.returns-then-number-eq0-clause-checks
returns-then-number-eq0-clause-checks c =
    let out : (c.args.number ≡ 0) ⊎ (greatest_maxval < c.args.number) = search rules in
    checks_no_maxval c.args.number out
