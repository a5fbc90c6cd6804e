use Rattle.std.proofs.Common.{◌*◌, sym, ◌∙◌}
use Rattle.std.proofs.lemmas.Bool.{false≢true}
use Rattle.prefix_moments.proofs.Totals.{limit_missed, limit_reached}
use Rattle.prefix_moments.proofs.start.root_below.Goals as goal

pub returns-then-is_reached-clause-none : goal.returns-then-is_reached-clause-none
returns-then-is_reached-clause-none c = λ root is.
    limit_reached (65536 * c.args.total) c.args.count c.args.limit root c.requires.some (c.is_reached.ensures.0 c.if-is_reached.true) is

pub returns-clause-below : goal.returns-clause-below
returns-clause-below c =
    limit_missed (65536 * c.args.total) c.args.count c.args.limit c.mean_root.result c.requires.some
    (λ reached. false≢true (sym c.if-is_reached.false ∙ c.is_reached.ensures.1 reached)) c.mean_root.ensures
