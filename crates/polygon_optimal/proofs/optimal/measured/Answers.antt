use Rattle.std.proofs.Common.{◌≡◌, List, sym, subst}
use Rattle.pt_core.specs.ClosedWalk.{IsClosedWalk}
use Rattle.pt_core.specs.OnPage.{AreOnPage}
use Rattle.pt_core.specs.declared.point.Point.{Point}
use Rattle.polygon_search.specs.Inner.Lasts.{HasLasts}
use Rattle.polygon_search.specs.Polygon.{IsBestPolygon, total_penalty}
use Rattle.polygon_optimal.proofs.optimal.measured.Goals as goal

-- the sums are those of the points
pub polygon_of-requires-clause-points : goal.polygon_of-requires-clause-points
polygon_of-requires-clause-points c = sym c.in_ok-moments.ensures

pub polygon_of-requires-clause-closed : goal.polygon_of-requires-clause-closed
polygon_of-requires-clause-closed c = subst IsClosedWalk (sym c.in_ok-moments.ensures) c.requires.closed

pub polygon_of-requires-clause-on_page : goal.polygon_of-requires-clause-on_page
polygon_of-requires-clause-on_page c = subst AreOnPage (sym c.in_ok-moments.ensures) c.requires.on_page

pub polygon_of-requires-clause-lasts : goal.polygon_of-requires-clause-lasts
polygon_of-requires-clause-lasts c =
    let P : List Point → Type 0 = λ points. HasLasts points c.in_ok-lasts.lasts.items in
    subst P (sym c.in_ok-moments.ensures) c.in_ok-lasts.ensures

pub returns-clause-best : goal.returns-clause-best
returns-clause-best c =
    let P : List Point → Type 0 = λ points. IsBestPolygon points c.in_ok-polygon.polygon.at in
    subst P c.in_ok-moments.ensures c.in_ok-polygon.ensures.best

pub returns-clause-cost : goal.returns-clause-cost
returns-clause-cost c =
    let P : List Point → Type 0 = λ points. c.in_ok-polygon.polygon.cost ≡ total_penalty points c.in_ok-polygon.polygon.at in
    subst P c.in_ok-moments.ensures c.in_ok-polygon.ensures.cost

pub returns-clause-moments : goal.returns-clause-moments
returns-clause-moments c = c.in_ok-moments.ensures
