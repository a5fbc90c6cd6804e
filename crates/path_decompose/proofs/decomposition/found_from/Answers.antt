-- Each start comes after the one before, and each path is the next one; at the end all is white.
use Rattle.std.proofs.Common.{◌≡◌, ◌∙◌, ◌<◌, ◌+◌, ◌-◌, ◌*◌, [], Some, ap, sym, subst, arith}
use Rattle.bit_image.specs.FirstBlack.{IsFirstBlack}
use Rattle.bit_image.specs.Image.{Fits}
use Rattle.bit_image.specs.Page.{Page, SameSides, image_of}
use Rattle.boundary_edges.specs.Inner.Bounds.{IsPathOn}
use Rattle.path_decompose.specs.Inner.Start.{IsStart}
use Rattle.path_decompose.proofs.PathOn.{page_paths_on}
use Rattle.path_decompose.proofs.Above.{above_push, above_at_end, all_above}
use Rattle.path_decompose.proofs.Scan.{places_left, places_left_le, places_left_fall}
use Rattle.path_decompose.proofs.decomposition.found_from.Goals as goal

pub paths-init : goal.paths-init
paths-init c =
    let page = c.args.page.now in
    let same = sym c.in_ok-rest.ensures in
    let few = places_left_le (image_of page) page.width page.height (Some (c.args.x, c.args.y)) c.width.ensures.fits c.requires.first in
    record {
      sides = record { width = ap (λ (p : Page). p.width) c.in_ok-rest.ensures; height = ap (λ (p : Page). p.height) c.in_ok-rest.ensures };
      fits = subst (λ (p : Page). Fits (image_of p) p.width p.height) same c.width.ensures.fits;
      start = subst (λ (p : Page). IsFirstBlack (image_of p) c.args.x c.args.y) same c.requires.first;
      paths = ([], ap image_of same, c.new-paths.ensures.items);
      few = omega (arith, few, c.new-paths.ensures.len);
    }

pub paths-smaller : goal.paths-smaller
paths-smaller c =
    let page = c.args.page.now in
    let rest = c.next_path.new.rest in
    let x = c.in-Some.x in
    let y = c.in-Some.y in
    let start = c.start_after-start.result in
    let first : IsFirstBlack (image_of c.paths.rest) x y = subst (IsStart (image_of c.paths.rest)) c.in-Some.is c.paths.invariant.start in
    let place = c.paths.invariant.fits x y first.black in
    let kept : rest.width ≡ c.paths.rest.width = c.in_ok-sign.ensures.sides.width in
    let fall = places_left_fall (image_of rest) rest.width rest.height x y start c.start_after-start.ensures.fits (omega arith) c.in_ok-sign.ensures.white c.start_after-start.ensures.start in
    subst (λ s. places_left page.width start < places_left page.width s) (sym c.in-Some.is)
    (subst (λ width. places_left width start < y * width + (width - x)) (kept ∙ c.paths.invariant.sides.width) fall)

pub paths-preserved : goal.paths-preserved
paths-preserved c =
    let page = c.args.page.now in
    let rest = c.next_path.new.rest in
    let before = c.paths.rest in
    let fewer : places_left page.width c.start_after-start.result < places_left page.width c.paths.start = paths-smaller c in
    let sides : SameSides before rest = c.in_ok-sign.ensures.sides in
    let fits : Fits (image_of rest) before.width before.height =
    subst (λ width. Fits (image_of rest) width before.height) sides.width (subst (λ height. Fits (image_of rest) rest.width height) sides.height c.start_after-start.ensures.fits) in
    record {
      sides = record {
        width = sides.width ∙ c.paths.invariant.sides.width;
        height = sides.height ∙ c.paths.invariant.sides.height;
      };
      fits = c.start_after-start.ensures.fits;
      start = c.start_after-start.ensures.start;
      paths =
          above_push page c.args.policy (image_of page) c.args.limit c.paths.paths.items c.push_above.new.paths.items (image_of before) (image_of rest) _ before.width before.height
          c.paths.invariant.paths c.in_ok-sign.ensures.path c.paths.invariant.fits fits c.in_ok-sign.ensures.inverted c.in_ok-push_above.ensures.added;
      few = omega (arith, fewer, c.in_ok-push_above.ensures.more, c.paths.invariant.few);
    }

pub returns-clause-found : goal.returns-clause-found
returns-clause-found c =
    above_at_end c.args.page.now c.args.policy _ c.args.limit _ _ _ c.paths.invariant.paths c.paths.invariant.start c.in_default.is

pub returns-clause-on_page : goal.returns-clause-on_page
returns-clause-on_page c =
    let page = c.args.page.now in
    let found = above_at_end page c.args.policy _ c.args.limit _ _ _ c.paths.invariant.paths c.paths.invariant.start c.in_default.is in
    all_above c.args.limit (IsPathOn page.width page.height) _ _ found.2 (page_paths_on page c.args.policy _ c.width.ensures.page found.1)

-- the sides stay those of the page, and each start is a black pixel of it
pub next_path-requires-clause-first : goal.next_path-requires-clause-first
next_path-requires-clause-first c = subst (IsStart (image_of c.paths.rest)) c.in-Some.is c.paths.invariant.start

pub next_path-requires-clause-sides : goal.next_path-requires-clause-sides
next_path-requires-clause-sides c = c.paths.invariant.sides

pub start_after-start-requires-clause-white : goal.start_after-start-requires-clause-white
start_after-start-requires-clause-white c = c.in_ok-sign.ensures.white

pub start_after-start-requires-clause-row : goal.start_after-start-requires-clause-row
start_after-start-requires-clause-row c =
    let first : IsFirstBlack (image_of c.paths.rest) c.in-Some.x c.in-Some.y = subst (IsStart (image_of c.paths.rest)) c.in-Some.is c.paths.invariant.start in
    omega (arith, (c.paths.invariant.fits c.in-Some.x c.in-Some.y first.black).1, c.in_ok-sign.ensures.sides.height)

pub start_after-start-requires-clause-column : goal.start_after-start-requires-clause-column
start_after-start-requires-clause-column c =
    let first : IsFirstBlack (image_of c.paths.rest) c.in-Some.x c.in-Some.y = subst (IsStart (image_of c.paths.rest)) c.in-Some.is c.paths.invariant.start in
    omega (arith, (c.paths.invariant.fits c.in-Some.x c.in-Some.y first.black).0, c.in_ok-sign.ensures.sides.width)

pub returns-clause-few : goal.returns-clause-few
returns-clause-few c = omega (arith, c.paths.invariant.few)
