use Rattle.std.proofs.Common.{◌∙◌, arith}
use Rattle.path_cones.proofs.Cyclic.{lap_before}
use Rattle.path_cones.proofs.laps.Laps.at.Goals as goal

pub returns-else-index-size-clause-value : goal.returns-else-index-size-clause-value
returns-else-index-size-clause-value c =
    c.in_lap-else-index-size.ensures ∙ lap_before c.args.self.now c.args.index c.size-size.result c.size-size.ensures.value (omega arith)
