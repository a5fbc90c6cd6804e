-- The edge that follows a boundary edge is one too. The end of an edge to the north or east still lies on the
-- page, so its coordinates are small enough for a corner.
use Rattle.std.proofs.Common.{◌≡◌, suc, ◌-◌, ◌≤◌, pred, refl, subst, arith}
use Rattle.bit_image.specs.Page.{image_of}
use Rattle.turn_policies.specs.Heading.{end_x, end_y}
use Rattle.turn_policies.specs.declared.heading.Dir.TheVariants.{South, West}
use Rattle.turn_policies.proofs.OnPage.{IsEdgeOnPage-boundary}
use Rattle.turn_policies.proofs.TurnedEdges.{next_is}
use Rattle.turn_policies.proofs.rule.next.Goals as goal

pub turned_at-requires-clause-y : goal.turned_at-requires-clause-y
turned_at-requires-clause-y c =
    let page = c.args.page.now in
    let on = IsEdgeOnPage-boundary (image_of page) page.width page.height c.args.edge c.width-width.ensures.fits c.requires in
    let row : suc c.args.edge.y ≤ page.height = subst (λ d. end_y c.args.edge.y d ≤ page.height) c.in-North.is on.end_y_in in
    omega (arith, row, c.width-width.ensures.page.most_height)

pub turned_at-requires-in-East-clause-x : goal.turned_at-requires-in-East-clause-x
turned_at-requires-in-East-clause-x c =
    let page = c.args.page.now in
    let on = IsEdgeOnPage-boundary (image_of page) page.width page.height c.args.edge c.width-width.ensures.fits c.requires in
    let column : suc c.args.edge.x ≤ page.width = subst (λ d. end_x c.args.edge.x d ≤ page.width) c.in-East.is on.end_x_in in
    omega (arith, column, c.width-width.ensures.page.most_width)

pub returns-in-South-clause-value : goal.returns-in-South-clause-value
returns-in-South-clause-value c =
    let row : c.args.edge.y - 1 ≡ pred c.args.edge.y = omega arith in
    next_is _ _ _ c.args.edge _ South c.args.edge.x (c.args.edge.y - 1) c.in-South.is refl row
    c.turned_at-in-South.ensures.x c.turned_at-in-South.ensures.y c.turned_at-in-South.ensures.heading

pub returns-in-West-clause-value : goal.returns-in-West-clause-value
returns-in-West-clause-value c =
    let column : c.args.edge.x - 1 ≡ pred c.args.edge.x = omega arith in
    next_is _ _ _ c.args.edge _ West (c.args.edge.x - 1) c.args.edge.y c.in-West.is column refl
    c.turned_at-in-West.ensures.x c.turned_at-in-West.ensures.y c.turned_at-in-West.ensures.heading
