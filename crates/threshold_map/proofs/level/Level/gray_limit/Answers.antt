use Rattle.std.proofs.Common.{◌*◌}
use Rattle.threshold_map.proofs.Limits.{below_quotient}
use Rattle.threshold_map.proofs.level.Level.gray_limit.Goals as goal

pub returns-clause-black : goal.returns-clause-black
returns-clause-black c = λ v. rw (← c.self.view_is) (below_quotient v (c.self.inside.micro * c.args.maxval))
