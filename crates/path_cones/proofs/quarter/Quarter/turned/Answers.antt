use Rattle.std.proofs.Common.{◌∙◌}
use Rattle.path_cones.proofs.Bounds.{short_back, short_passed}
use Rattle.path_cones.proofs.Quarters.{sign_passed, signed_back}
use Rattle.path_cones.proofs.quarter.Quarter.turned.Goals as goal

-- the numbers are passed as they are
pub signed-requires-clause-sign : goal.signed-requires-clause-sign
signed-requires-clause-sign c = sign_passed c.args.self.right c.requires.quarter.right

pub signed-requires-clause-short : goal.signed-requires-clause-short
signed-requires-clause-short c = short_passed c.args.way.x c.requires.short.x

pub signed-requires-2-clause-sign : goal.signed-requires-2-clause-sign
signed-requires-2-clause-sign c = sign_passed c.args.self.up c.requires.quarter.up

pub signed-requires-2-clause-short : goal.signed-requires-2-clause-short
signed-requires-2-clause-short c = short_passed c.args.way.y c.requires.short.y

pub returns-clause-x : goal.returns-clause-x
returns-clause-x c =
    short_back c.signed.result c.signed.ensures.most
    ∙ signed_back c.signed.result c.args.self.right c.args.way.x c.requires.quarter.right c.requires.short.x c.signed.ensures.value

pub returns-clause-y : goal.returns-clause-y
returns-clause-y c =
    short_back c.signed-2.result c.signed-2.ensures.most
    ∙ signed_back c.signed-2.result c.args.self.up c.args.way.y c.requires.quarter.up c.requires.short.y c.signed-2.ensures.value

pub returns-clause-short : goal.returns-clause-short
returns-clause-short c = record {
  x = short_passed c.signed.result c.signed.ensures.most;
  y = short_passed c.signed-2.result c.signed-2.ensures.most;
}
