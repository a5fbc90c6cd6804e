use Rattle.std.proofs.Common.{arith}
use Rattle.curve_join.proofs.JoinedRuns.{sense_back}
use Rattle.curve_join.proofs.run.PieceRun.sense.Goals as goal

pub bounds-self-0 : goal.bounds-self-0
bounds-self-0 c = omega (arith, c.args.self.now.some)

pub returns : goal.returns
returns c = sense_back c.args.self.now.bends.now c.of.result c.of.ensures c.args.self.now.small (omega (arith, c.args.self.now.some))
