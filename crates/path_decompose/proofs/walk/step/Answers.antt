-- The end of the edge lies on the page, and the turn there leads to the next edge.
use Rattle.std.proofs.Common.{◌≡◌, ◌≤◌, true, false, refl, ap, sym, subst, ◌∙◌, arith}
use Rattle.bit_image.specs.Image.{south_west}
use Rattle.bit_image.specs.Page.{image_of}
use Rattle.turn_policies.specs.Boundary.{IsBoundary, left_pixel, right_pixel}
use Rattle.turn_policies.specs.Heading.{opposite_of}
use Rattle.turn_policies.specs.Turn.{turn}
use Rattle.turn_policies.specs.declared.edge.Edge.{Edge}
use Rattle.turn_policies.proofs.TurnedEdges.{next_boundary, next_is}
use Rattle.path_decompose.proofs.Arrivals.{black_at_end, white_at_end}
use Rattle.path_decompose.proofs.OnPage.{edge_on}
use Rattle.path_decompose.proofs.walk.step.Goals as goal

pub note-requires-clause-column : goal.note-requires-clause-column
note-requires-clause-column c =
    let page = c.args.edges.now.page.now in
    let on = edge_on (image_of page) page.width page.height c.width.ensures.fits c.args.edge c.requires.boundary in
    omega (arith, on.column, c.width.ensures.page.most_width)

pub note-requires-clause-row : goal.note-requires-clause-row
note-requires-clause-row c =
    let page = c.args.edges.now.page.now in
    let on = edge_on (image_of page) page.width page.height c.width.ensures.fits c.args.edge c.requires.boundary in
    omega (arith, on.row, c.width.ensures.page.most_height)

pub turned_at-heading-requires-clause-x : goal.turned_at-heading-requires-clause-x
turned_at-heading-requires-clause-x c =
    let page = c.args.edges.now.page.now in
    let on = edge_on (image_of page) page.width page.height c.width.ensures.fits c.args.edge c.requires.boundary in
    subst (λ (e : Edge). e.x ≤ page.width) (sym c.ahead_of.ensures.ahead) on.end_column

pub turned_at-heading-requires-clause-y : goal.turned_at-heading-requires-clause-y
turned_at-heading-requires-clause-y c =
    let page = c.args.edges.now.page.now in
    let on = edge_on (image_of page) page.width page.height c.width.ensures.fits c.args.edge c.requires.boundary in
    subst (λ (e : Edge). e.y ≤ page.height) (sym c.ahead_of.ensures.ahead) on.end_row

pub turned_at-heading-requires-clause-black_left : goal.turned_at-heading-requires-clause-black_left
turned_at-heading-requires-clause-black_left c =
    let b = image_of c.args.edges.now.page.now in
    let e = c.args.edge in
    subst (λ (a : Edge). right_pixel (south_west b) a.x a.y (opposite_of a.heading) ≡ true) (sym c.ahead_of.ensures.ahead)
    (black_at_end b e.x e.y e.heading c.requires.boundary.black_left)

pub turned_at-heading-requires-clause-white_right : goal.turned_at-heading-requires-clause-white_right
turned_at-heading-requires-clause-white_right c =
    let b = image_of c.args.edges.now.page.now in
    let e = c.args.edge in
    subst (λ (a : Edge). left_pixel (south_west b) a.x a.y (opposite_of a.heading) ≡ false) (sym c.ahead_of.ensures.ahead)
    (white_at_end b e.x e.y e.heading c.requires.boundary.black_left c.requires.boundary.white_right)

pub returns-clause-value : goal.returns-clause-value
returns-clause-value c =
    let b = image_of c.args.edges.now.page.now in
    let ahead = c.ahead_of.result.0 in
    let is = c.ahead_of.ensures.ahead in
    next_is b c.args.policy c.args.sign c.args.edge _ c.args.edge.heading ahead.x ahead.y refl (ap (λ (a : Edge). a.x) is) (ap (λ (a : Edge). a.y) is)
    refl refl (c.turned_at-heading.ensures ∙ ap (turn b c.args.policy c.args.sign ahead.x ahead.y) (ap (λ (a : Edge). a.heading) is))

pub returns-clause-boundary : goal.returns-clause-boundary
returns-clause-boundary c =
    subst (IsBoundary (image_of c.args.edges.now.page.now)) (sym (returns-clause-value c)) (next_boundary _ _ _ _ c.requires.boundary)
