use Rattle.std.proofs.Common.{arith}
use Rattle.path_cones.proofs.Ends.{tail_earlier}
use Rattle.path_cones.proofs.tail.Tail.earlier.Goals as goal

pub returns-clause-tail : goal.returns-clause-tail
returns-clause-tail c =
    tail_earlier c.args.track.now c.args.index c.args.self c.earlier-ahead.result c.args.clear c.min.result
    c.requires.later c.earlier-ahead.ensures.ahead c.requires.clear c.earlier-ahead.ensures.same_last (omega arith)
