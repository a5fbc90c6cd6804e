-- Each edge of the run leaves fewer up to the page's side.
use Rattle.std.proofs.Common.{◌≡◌, ◌≤◌, suc, refl, subst, arith, rules}
use Rattle.pt_core.specs.declared.limits.TheConstants.{LONGEST_SIDE}
use Rattle.bit_image.specs.Page.{image_of}
use Rattle.turn_policies.specs.Boundary.{IsBoundary}
use Rattle.turn_policies.specs.Turn.{next}
use Rattle.turn_policies.specs.declared.edge.Edge.{Edge}
use Rattle.path_decompose.specs.Inner.Trail.{edge_from, IsStraightRun}
use Rattle.path_decompose.proofs.OnPage.{edge_on}
use Rattle.path_decompose.proofs.Runs.{no_run, run_more, edges_left, edges_left-le, left_less, sums_more}
use Rattle.path_decompose.proofs.walk.turned_run.Goals as goal

pub edges-init : goal.edges-init
edges-init c =
    let page = c.args.edges.now.page.now in
    let on = edge_on (image_of page) page.width page.height c.width.ensures.fits _ c.requires.boundary in
    let few : edges_left page.width page.height c.args.from.x c.args.from.y c.args.from.heading ≤ suc LONGEST_SIDE =
    edges_left-le page.width page.height c.args.from.x c.args.from.y LONGEST_SIDE c.args.from.heading c.width.ensures.page.most_width c.width.ensures.page.most_height on.column on.row in
    record {
      run = no_run _ _ _ _ refl;
      boundary = c.requires.boundary;
      spot = c.requires.spot;
      up = omega (arith, few, c.requires.sums.up);
      down = omega (arith, few, c.requires.sums.down);
    }

pub returns-then-ne-clause-run : goal.returns-then-ne-clause-run
returns-then-ne-clause-run c = run_more _ _ _ _ _ _ _ c.edges.invariant.run refl c.in_ok-after.ensures.value c.in_ok-after.ensures.noted

pub edges-smaller : goal.edges-smaller
edges-smaller c =
    let page = c.args.edges.now.page.now in
    left_less (image_of page) c.args.policy c.args.sign page.width page.height (edge_from c.edges.x c.edges.y c.args.from.heading) c.in_ok-after.after.0 c.width.ensures.fits c.edges.invariant.boundary c.in_ok-after.ensures.value

pub edges-preserved : goal.edges-preserved
edges-preserved c =
    let page = c.args.edges.now.page.now in
    let here : Edge = edge_from c.edges.x c.edges.y c.args.from.heading in
    let on = edge_on (image_of page) page.width page.height c.width.ensures.fits here c.edges.invariant.boundary in
    let narrow : c.edges.x ≤ LONGEST_SIDE = omega (arith, on.column, c.width.ensures.page.most_width) in
    let sums = sums_more _ _ here narrow c.in_ok-after.ensures.noted in
    let less = left_less (image_of page) c.args.policy c.args.sign page.width page.height here c.in_ok-after.after.0 c.width.ensures.fits c.edges.invariant.boundary c.in_ok-after.ensures.value in
    let same : c.in_ok-after.after.0.heading ≡ c.args.from.heading = search rules in
    record {
      run =
          subst (λ d. IsStraightRun (next (image_of page) c.args.policy c.args.sign) c.args.from (edge_from c.in_ok-after.after.0.x c.in_ok-after.after.0.y d) c.args.trail.now c.step.new.trail) same
          (run_more _ _ _ _ _ _ _ c.edges.invariant.run refl c.in_ok-after.ensures.value c.in_ok-after.ensures.noted);
      boundary = subst (λ d. IsBoundary (image_of page) (edge_from c.in_ok-after.after.0.x c.in_ok-after.after.0.y d)) same c.in_ok-after.ensures.boundary;
      spot = c.in_ok-after.ensures.spot;
      up = omega (arith, sums.0, less, c.edges.invariant.up);
      down = omega (arith, sums.1, less, c.edges.invariant.down);
    }
