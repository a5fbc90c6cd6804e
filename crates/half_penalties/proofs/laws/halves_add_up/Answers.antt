use Rattle.half_penalties.proofs.Together.{together}
use Rattle.half_penalties.proofs.laws.halves_add_up.Goals as goal

pub returns : goal.returns
returns c = together
