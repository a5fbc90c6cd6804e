-- What each path of a page is.
use Rattle.std.proofs.Common.{◌≡◌, ℕ, suc, ◌≤◌, ◌≤ℤ◌, pos, List, [], ◌∷◌, All, ap, sym, subst, ◌∙◌, arith}
use Rattle.std.proofs.lemmas.Int.{ints}
use Rattle.std.proofs.lemmas.List.Elements.{All-nil, All-cons}
use Rattle.pt_core.specs.ClosedWalk.{point_at, IsClosedWalk}
use Rattle.pt_core.specs.declared.path.Path.{Path}
use Rattle.pt_core.specs.declared.policy.Policy.{Policy}
use Rattle.pt_core.specs.declared.point.Point.{Point}
use Rattle.pt_core.specs.declared.limits.TheConstants.{LONGEST_SIDE}
use Rattle.bit_image.specs.Image.{Image, Fits}
use Rattle.bit_image.specs.Page.{Page, IsPage, image_of}
use Rattle.bit_image.proofs.Pages.{Fits-page}
use Rattle.boundary_edges.specs.Bounds.{IsCornerOf}
use Rattle.boundary_edges.specs.Inner.Bounds.{IsPathOn}
use Rattle.path_decompose.specs.Decomposition.{inverted, IsNextPath, IsDecomposed, IsDecomposition}
use Rattle.path_decompose.specs.Walk.{start_of, first_edge}
use Rattle.path_decompose.proofs.ClosedWalk.{closed_walk, corners, point_of_round}
use Rattle.path_decompose.proofs.NextPath.{next_circuit, next_fits, fits_inverted}

one_above : (points : List Point) (x y : ℕ) → point_at points 0 ≡ start_of (first_edge x y) → pos 1 ≤ℤ (point_at points 0).y
one_above points x y at =
    let row : (point_at points 0).y ≡ pos (suc y) = ap (λ p. p.y) at in
    rw row (omega (arith, ints))

path_on : (page : Page) (policy : Policy) (b : Image) (path : Path) (width height : ℕ) → IsNextPath page policy b path → Fits b width height → width ≤ LONGEST_SIDE → height ≤ LONGEST_SIDE → IsPathOn width height path
path_on page policy b path width height n fits w h =
    let c = next_circuit page policy b path n in
    let s = first_edge n.x n.y in
    record {
      closed = subst IsClosedWalk (sym n.walk.starts) (closed_walk b policy path.sign s n.walk.edges c width height fits w h);
      on_page = subst (All (IsCornerOf width height)) (sym n.walk.starts) (corners b policy path.sign s n.walk.edges c width height fits);
      starts_above = one_above path.points n.x n.y (ap (λ points. point_at points 0) n.walk.starts ∙ point_of_round b policy path.sign s n.walk.edges c 0);
      inside_on_page = next_fits page policy b path width height n fits;
    }

pub paths_on : (page : Page) (policy : Policy) (b : Image) (paths : List Path) (width height : ℕ) → IsDecomposed page policy b paths → Fits b width height → width ≤ LONGEST_SIDE → height ≤ LONGEST_SIDE → All (IsPathOn width height) paths
paths_on page policy b [] width height d fits w h = All-nil (IsPathOn width height)
paths_on page policy b (path ∷ paths) width height d fits w h =
    All-cons (IsPathOn width height) path paths (path_on page policy b path width height d.0 fits w h)
    (paths_on page policy (inverted b path.points) paths width height d.1 (fits_inverted page policy b path width height d.0 fits) w h)

-- the paths of a page
pub page_paths_on : (page : Page) (policy : Policy) (paths : List Path) → IsPage page → IsDecomposition page policy paths → All (IsPathOn page.width page.height) paths
page_paths_on page policy paths is_page d =
    paths_on page policy (image_of page) paths page.width page.height d (Fits-page page is_page) is_page.most_width is_page.most_height
