use Rattle.std.proofs.Common.{◌≡◌, sym, subst, ◌∙◌}
use Rattle.pt_core.specs.declared.polygon.Polygon.{Polygon}
use Rattle.polygon_search.specs.Polygon.{IsBestPolygon, total_penalty}
use Rattle.path_copies.specs.Inner.KnownPaths.{HasPolygon}
use Rattle.path_copies.proofs.Same.{best_too, penalties_same}
use Rattle.path_copies.proofs.copies.Copies.known_polygon.Goals as goal

-- the path that was found is known with its polygon
has_polygon : (c : goal.In_ok-polygon) → HasPolygon c.in-Some.path.now
has_polygon c =
    let known = c.in-Some.ensures.known in
    subst HasPolygon known.2 (c.self.invariant known.0 c.in-Some.path.now known.1)

pub returns-clause-best : goal.returns-clause-best
returns-clause-best c =
    let path = c.in-Some.path.now in
    let P : Polygon → Type 0 = λ polygon. IsBestPolygon c.args.points.now polygon.at in
    subst P (sym c.in_ok-polygon.ensures) (best_too path.points c.args.points.now path.found.at c.in-Some.ensures.copy (has_polygon c).best)

pub returns-clause-cost : goal.returns-clause-cost
returns-clause-cost c =
    let path = c.in-Some.path.now in
    let P : Polygon → Type 0 = λ polygon. polygon.cost ≡ total_penalty c.args.points.now polygon.at in
    subst P (sym c.in_ok-polygon.ensures) ((has_polygon c).cost ∙ penalties_same path.points c.args.points.now c.in-Some.ensures.copy path.found.at)
