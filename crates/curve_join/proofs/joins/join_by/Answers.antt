use Rattle.std.proofs.Common.{◌≡◌, ℕ, List, length, sym, ap, subst, ◌∙◌}
use Rattle.least_walk.specs.LeastWalk.{IsWalk, walk_from}
use Rattle.curve_join.specs.Choice.{MayBeOne, cut_pieces}
use Rattle.curve_join.specs.Outline.{outline}
use Rattle.curve_join.proofs.Cuts.{best_join, length-bends_of}
use Rattle.curve_join.proofs.joins.join_by.Goals as goal

one_each : (c : goal.After-deref) → length c.args.pieces.now ≡ length c.in_ok-runs.runs.bends.items
one_each c = sym (length-bends_of (outline c.args.vertices.now c.args.pieces.now)) ∙ sym (ap length c.in_ok-runs.ensures.bends)

pub pieces-requires-clause-one_each : goal.pieces-requires-clause-one_each
pieces-requires-clause-one_each c = one_each c

pub pieces-requires-clause-walk : goal.pieces-requires-clause-walk
pieces-requires-clause-walk c =
    let runs = c.in_ok-runs.runs in
    let P : ℕ → Type 0 = λ n. IsWalk n (MayBeOne runs.tol runs.bends.items) (walk_from c.as_slice.result.now n) in
    let Q : List ℕ → Type 0 = λ starts. IsWalk (length runs.bends.items) (MayBeOne runs.tol runs.bends.items) (walk_from starts (length runs.bends.items)) in
    subst P (sym (one_each c)) (subst Q (sym c.as_slice.ensures) c.in_ok-walk.ensures.least.is_walk)

pub returns : goal.returns
returns c =
    let runs = c.in_ok-runs.runs in
    let pieces = c.args.pieces.now in
    let at = c.in_ok-walk.walk.at in
    let same = ap (λ starts. cut_pieces pieces runs.bends.items (walk_from starts (length pieces))) c.as_slice.ensures in
    best_join c.args.tol runs.tol (outline c.args.vertices.now pieces) runs.bends.items at c.in_ok-joined.joined c.in_ok-runs.ensures.bends
    c.in_ok-runs.ensures.tol c.in_ok-walk.ensures.least (c.in_ok-joined.ensures ∙ same)
