use Rattle.polygon_search.specs.Inner.OnePenalty.{penalty_is, penalty_is_one}
use Rattle.polygon_optimal.proofs.laws.penalties_are_one.Goals as goal

pub returns : goal.returns
returns c = record { is = penalty_is; one = penalty_is_one }
