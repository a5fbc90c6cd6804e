use Rattle.std.proofs.Common.{◌<◌, ◌*◌, sym, ◌∙◌, arith}
use Rattle.std.proofs.lemmas.Bool.{false≢true}
use Rattle.prefix_moments.proofs.Totals.{limit_missed, limit_reached}
use Rattle.prefix_moments.proofs.growing.Growing.reaches.Goals as goal

some : (c : goal.After-is_reached) → 0 < c.count.result
some c = omega (arith, c.count.ensures.value)

pub returns-clause-reached : goal.returns-clause-reached
returns-clause-reached c = λ reached penalty is.
    limit_reached (65536 * c.total.result) c.count.result c.args.limit penalty (some c) (c.is_reached.ensures.0 reached)
    (rw (c.total.ensures.value, c.count.ensures.value) is)

pub returns-clause-below : goal.returns-clause-below
returns-clause-below c = λ missed penalty is.
    limit_missed (65536 * c.total.result) c.count.result c.args.limit penalty (some c)
    (λ reached. false≢true (sym missed ∙ c.is_reached.ensures.1 reached))
    (rw (c.total.ensures.value, c.count.ensures.value) is)
