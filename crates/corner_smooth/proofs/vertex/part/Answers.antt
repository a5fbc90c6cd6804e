use Rattle.std.proofs.Common.{ℤ, sym, subst}
use Rattle.corner_smooth.specs.Corner.{IsInReach}
use Rattle.corner_smooth.proofs.Fitting.{difference_is}
use Rattle.corner_smooth.proofs.Sharing.{part_is, part_reach}
use Rattle.corner_smooth.proofs.vertex.part.Goals as goal

pub returns-clause-value : goal.returns-clause-value
returns-clause-value c =
    part_is c.args.al c.args.from c.args.to c.from.result c.between.result c.share.result c.requires.from c.from.ensures
    (difference_is c.args.from c.args.to c.between.result c.requires.from c.requires.to c.between.ensures.value)
    c.between.ensures.most c.share.ensures.most c.share.ensures.value

pub returns-clause-reach : goal.returns-clause-reach
returns-clause-reach c =
    let P : ℤ → Type 0 = λ r. IsInReach r in
    subst P (sym (returns-clause-value c)) (part_reach c.args.al c.args.from c.args.to c.requires.al c.requires.from c.requires.to)
