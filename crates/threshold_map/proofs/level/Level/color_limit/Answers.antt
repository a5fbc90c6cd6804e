use Rattle.std.proofs.Common.{◌+◌, ◌*◌}
use Rattle.threshold_map.proofs.Limits.{below_quotient}
use Rattle.threshold_map.proofs.level.Level.color_limit.Goals as goal

pub returns-clause-black : goal.returns-clause-black
returns-clause-black c = λ r g b. rw (← c.self.view_is) (below_quotient (r + g + b) (c.self.inside.micro * 3 * c.args.maxval))
