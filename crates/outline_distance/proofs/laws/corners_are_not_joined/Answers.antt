use Rattle.outline_distance.proofs.Unjoined.{unjoined}
use Rattle.outline_distance.proofs.laws.corners_are_not_joined.Goals as goal

pub returns : goal.returns
returns c = λ tol o pieces corners best. unjoined tol o corners pieces best
