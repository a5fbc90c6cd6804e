-- Lemmas of `TurnedEdges` are the clauses.
use Rattle.turn_policies.proofs.TurnedEdges.{next_boundary, onwards}
use Rattle.turn_policies.proofs.laws.edges_lead_on.Goals as goal

pub returns-clause-boundary : goal.returns-clause-boundary
returns-clause-boundary c = next_boundary

pub returns-clause-onwards : goal.returns-clause-onwards
returns-clause-onwards c = λ b policy sign e. onwards _ _ _ e.heading
