use Rattle.std.proofs.Common.{◌≤◌, ◌+◌, ◌^◌, ℤ, unsigned_abs, sym, subst, w64, rules, arith}
use Rattle.std.specs.Int.RustNames.{FitsSigned}
use Rattle.corner_smooth.proofs.Sharing.{share_is, share_most}
use Rattle.corner_smooth.proofs.vertex.share.Goals as goal

pub returns-clause-value : goal.returns-clause-value
returns-clause-value c =
    let fits : FitsSigned w64 c.div_euclid.result = search rules in
    share_is (65536 + c.args.al) c.from.result c.args.way c.div_euclid.result (omega arith) c.requires.way c.from.ensures fits c.div_euclid.ensures

pub returns-clause-most : goal.returns-clause-most
returns-clause-most c =
    let P : ℤ → Type 0 = λ r. unsigned_abs r ≤ 2 ^ 25 in
    subst P (sym (returns-clause-value c)) (share_most (65536 + c.args.al) c.args.way (omega arith) c.requires.way)
