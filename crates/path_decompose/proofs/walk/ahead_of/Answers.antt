use Rattle.std.proofs.Common.{◌≡◌, ◌+◌, ◌-◌, ◌≤◌, suc, pred, true, refl, subst, arith}
use Rattle.pt_core.specs.declared.limits.TheConstants.{LONGEST_SIDE}
use Rattle.bit_image.specs.Image.{Fits, south_west}
use Rattle.bit_image.specs.Page.{Page, IsPage, image_of}
use Rattle.turn_policies.specs.Boundary.{IsBoundary, left_pixel}
use Rattle.turn_policies.specs.declared.edge.Edge.{Edge}
use Rattle.turn_policies.specs.declared.heading.Dir.{Dir}
use Rattle.turn_policies.specs.declared.heading.Dir.TheVariants.{North, East, South, West}
use Rattle.path_decompose.proofs.Arrivals.{ahead_is}
use Rattle.path_decompose.proofs.OnPage.{edge_on}
use Rattle.path_decompose.proofs.Runs.{past_sides}
use Rattle.path_decompose.proofs.walk.ahead_of.Goals as goal

-- the corner where the edge begins lies on the page, whose sides are short
corner : (page : Page) → IsPage page → Fits (image_of page) page.width page.height → (edge : Edge) → IsBoundary (image_of page) edge
    → (edge.x ≤ LONGEST_SIDE) × (edge.y ≤ LONGEST_SIDE)
corner page is fits edge boundary =
    let on = edge_on (image_of page) page.width page.height fits edge boundary in
    (omega (arith, on.column, is.most_width), omega (arith, on.row, is.most_height))

black : (page : Page) (edge : Edge) (heading : Dir) → edge.heading ≡ heading → IsBoundary (image_of page) edge → left_pixel (south_west (image_of page)) edge.x edge.y heading ≡ true
black page edge heading is boundary = subst (λ d. left_pixel (south_west (image_of page)) edge.x edge.y d ≡ true) is boundary.black_left

pub overflow_sub-result : goal.overflow_sub-result
overflow_sub-result c = omega (arith, past_sides (image_of c.args.edges.now.page.now) (suc c.args.edge.x) c.args.edge.y (black c.args.edges.now.page.now c.args.edge South c.in-South.is c.requires.boundary))

pub overflow_sub-result-in-West : goal.overflow_sub-result-in-West
overflow_sub-result-in-West c = omega (arith, past_sides (image_of c.args.edges.now.page.now) c.args.edge.x c.args.edge.y (black c.args.edges.now.page.now c.args.edge West c.in-West.is c.requires.boundary))

pub overflow_add-result-in-East : goal.overflow_add-result-in-East
overflow_add-result-in-East c = omega (arith, corner c.args.edges.now.page.now c.width.ensures.page c.width.ensures.fits c.args.edge c.requires.boundary)

pub overflow_add-result : goal.overflow_add-result
overflow_add-result c = omega (arith, corner c.args.edges.now.page.now c.width.ensures.page c.width.ensures.fits c.args.edge c.requires.boundary)

pub returns-in-North-clause-ahead : goal.returns-in-North-clause-ahead
returns-in-North-clause-ahead c = ahead_is c.args.edge North c.args.edge.x (c.args.edge.y + 1) c.in-North.is refl (omega arith)

pub returns-in-East-clause-ahead : goal.returns-in-East-clause-ahead
returns-in-East-clause-ahead c = ahead_is c.args.edge East (c.args.edge.x + 1) c.args.edge.y c.in-East.is (omega arith) refl

pub returns-in-South-clause-ahead : goal.returns-in-South-clause-ahead
returns-in-South-clause-ahead c =
    let row : c.args.edge.y - 1 ≡ pred c.args.edge.y = omega arith in
    ahead_is c.args.edge South c.args.edge.x (c.args.edge.y - 1) c.in-South.is refl row

pub returns-in-West-clause-ahead : goal.returns-in-West-clause-ahead
returns-in-West-clause-ahead c =
    let column : c.args.edge.x - 1 ≡ pred c.args.edge.x = omega arith in
    ahead_is c.args.edge West (c.args.edge.x - 1) c.args.edge.y c.in-West.is column refl
