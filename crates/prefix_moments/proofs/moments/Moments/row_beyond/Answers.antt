use Rattle.std.proofs.Common.{arith}
use Rattle.prefix_moments.proofs.Prefixes.{lap_is}
use Rattle.prefix_moments.proofs.moments.Moments.row_beyond.Goals as goal

pub returns-clause-value : goal.returns-clause-value
returns-clause-value c =
    lap_is c.args.self.now c.row_in_lap.ensures.on_page c.count-lap.result c.args.k _ _ c.plus.result c.count-lap.ensures (omega (arith, c.count-lap.ensures, c.requires.beyond))
    c.row_in_lap.ensures.value c.row_in_lap-2.ensures.value c.plus.ensures
