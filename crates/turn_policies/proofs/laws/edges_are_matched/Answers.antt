-- The boundary edge that an edge follows is given by the table of turns, read backwards.
use Rattle.turn_policies.proofs.Back.{previous, previous_boundary, next-previous, next_once}
use Rattle.turn_policies.proofs.laws.edges_are_matched.Goals as goal

pub returns-clause-some : goal.returns-clause-some
returns-clause-some c = λ b policy sign e h. (previous b policy sign e, previous_boundary b policy sign e h, next-previous b policy sign e h)

pub returns-clause-one : goal.returns-clause-one
returns-clause-one c = next_once
