use Rattle.std.proofs.Common.{ap, ◌∙◌}
use Rattle.curve_join.proofs.JoinedRuns.{joined_is}
use Rattle.curve_join.proofs.run.joined_curve.Goals as goal

pub returns : goal.returns
returns c =
    c.piece.ensures
    ∙ joined_is c.args.run.now.bends.now c.in-Some.cubic c.in-Some.alpha (ap (λ both. both.0) c.in-Some.ensures.given.is) (ap (λ both. both.1) c.in-Some.ensures.given.is)

pub unreachable-requires : goal.unreachable-requires
unreachable-requires c = c.in-None.ensures.given (c.requires.tangents, c.requires.area)
