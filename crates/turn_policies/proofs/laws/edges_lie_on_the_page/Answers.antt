-- A lemma of `OnPage` gives the clauses.
use Rattle.turn_policies.proofs.OnPage.{IsEdgeOnPage-boundary}
use Rattle.turn_policies.proofs.laws.edges_lie_on_the_page.Goals as goal

pub returns-clause-column : goal.returns-clause-column
returns-clause-column c = λ b width height e fits edge. (IsEdgeOnPage-boundary b width height e fits edge).x_in

pub returns-clause-row : goal.returns-clause-row
returns-clause-row c = λ b width height e fits edge. (IsEdgeOnPage-boundary b width height e fits edge).y_in
