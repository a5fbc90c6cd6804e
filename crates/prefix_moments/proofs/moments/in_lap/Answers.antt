use Rattle.std.proofs.Common.{sym}
use Rattle.std.proofs.Math.Nat.{mod-eq_of_lt}
use Rattle.prefix_moments.proofs.moments.in_lap.Goals as goal

pub returns-then-k-points : goal.returns-then-k-points
returns-then-k-points c = sym (mod-eq_of_lt c.if-k-points.true)
