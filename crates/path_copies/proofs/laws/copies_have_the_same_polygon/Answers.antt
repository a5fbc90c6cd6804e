use Rattle.path_copies.proofs.Same.{best_too, penalties_same}
use Rattle.path_copies.proofs.laws.copies_have_the_same_polygon.Goals as goal

pub returns : goal.returns
returns c = record { best = best_too; penalty = λ points other at copy. penalties_same points other copy at }
