use Rattle.std.proofs.Common.{refl}
use Rattle.vertex_adjust.proofs.Division.{lifted_found, mean_found, mean_back}
use Rattle.vertex_adjust.proofs.line.mean.Goals as goal

pub returns-then-lifted-clause-value : goal.returns-then-lifted-clause-value
returns-then-lifted-clause-value c =
    (lifted_found c.args.sum c.from.result c.from-2.result _ c.from-then-lifted.result c.from-then-lifted-2.result c.args.count
    c.requires.some c.requires.few c.requires.sum c.from.ensures c.from-2.ensures refl c.if-lifted-ge0.true c.if-lifted.true
    c.from-then-lifted.ensures c.from-then-lifted-2.ensures).0

pub returns-then-lifted-clause-most : goal.returns-then-lifted-clause-most
returns-then-lifted-clause-most c =
    (lifted_found c.args.sum c.from.result c.from-2.result _ c.from-then-lifted.result c.from-then-lifted-2.result c.args.count
    c.requires.some c.requires.few c.requires.sum c.from.ensures c.from-2.ensures refl c.if-lifted-ge0.true c.if-lifted.true
    c.from-then-lifted.ensures c.from-then-lifted-2.ensures).1

pub returns-else-lifted-ge0-clause-most : goal.returns-else-lifted-ge0-clause-most
returns-else-lifted-ge0-clause-most c =
    mean_back c.div_euclid.result (mean_found c.args.sum c.from-else-lifted-ge0.result c.div_euclid.result c.args.count c.requires.some c.requires.few
    c.requires.sum c.from-else-lifted-ge0.ensures c.div_euclid.ensures).1
