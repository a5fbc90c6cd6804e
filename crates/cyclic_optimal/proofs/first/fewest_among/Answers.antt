use Rattle.std.proofs.Common.{arith}
use Rattle.cyclic_optimal.proofs.Starts.{fewest_more}
use Rattle.cyclic_optimal.proofs.first.fewest_among.Goals as goal

pub loop-start-preserved : goal.loop-start-preserved
loop-start-preserved c =
    fewest_more c.args.sides.now.moments.now c.args.low c.loop-start.start c.loop-start.fewest _ c.min-fewest.result
    (omega (arith, c.loop-start.auto.start)) c.loop-start.invariant c.in_ok-tops-2.ensures.fewest
    (λ fewer. omega (arith, c.min-fewest.ensures, c.len.ensures)) (λ more. omega (arith, c.min-fewest.ensures, c.len.ensures))
