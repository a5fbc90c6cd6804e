use Rattle.std.proofs.Common.{ℕ, ◌+◌, ◌-◌, ◌*◌, ◌/◌, sym, ◌∙◌, subst, arith}
use Rattle.std.proofs.lemmas.Bool.{false≢true}
use Rattle.pt_core.specs.Root.{IsRoot}
use Rattle.prefix_moments.proofs.Totals.{limit_missed, limit_reached}
use Rattle.prefix_moments.proofs.moments.Moments.penalty_below.Goals as goal

pub returns-then-is_reached-clause-none : goal.returns-then-is_reached-clause-none
returns-then-is_reached-clause-none c = λ penalty is.
    let count : ℕ = c.args.j - c.args.i + 1 in
    let P : ℕ → Type 0 = λ total. IsRoot (65536 * total / count) penalty in
    limit_reached (65536 * c.total-total.result) count c.args.limit penalty (omega arith)
    (c.is_reached.ensures.0 c.if-is_reached.true) (subst P (sym c.total-total.ensures.value) is)

pub returns-clause-below : goal.returns-clause-below
returns-clause-below c =
    let count : ℕ = c.args.j - c.args.i + 1 in
    limit_missed (65536 * c.total-total.result) count c.args.limit c.root_of_mean.result (omega arith)
    (λ reached. false≢true (sym c.if-is_reached.false ∙ c.is_reached.ensures.1 reached)) c.root_of_mean.ensures
