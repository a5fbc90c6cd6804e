-- What the lines of a walk's path are to its inside and to the image, and where its points lie: so the path can be taken away.
use Rattle.std.proofs.Common.{◌≡◌, ℕ, ◌≤◌, true, cond, List, All, count_by, ap, sym, subst, ◌∙◌, inl, inr}
use Rattle.std.proofs.lemmas.Bool.{cases_Bool, false≢true}
use Rattle.pt_core.specs.ClosedWalk.{IsClosedWalk}
use Rattle.pt_core.specs.declared.limits.TheConstants.{LONGEST_SIDE}
use Rattle.pt_core.specs.declared.point.Point.{Point}
use Rattle.pt_core.specs.declared.path.Sign.{Sign}
use Rattle.pt_core.specs.declared.policy.Policy.{Policy}
use Rattle.bit_image.specs.Image.{Image, Fits}
use Rattle.bit_image.specs.FirstBlack.{IsFirstBlack}
use Rattle.boundary_edges.specs.GridEdges.{GridEdge, same_line, is_edge}
use Rattle.boundary_edges.specs.Inside.{lines_of, inside}
use Rattle.boundary_edges.specs.Bounds.{IsCornerOf}
use Rattle.path_decompose.specs.Walk.{first_edge, IsBoundaryWalk}
use Rattle.path_decompose.proofs.ClosedWalk.{closed_walk, corners}
use Rattle.path_decompose.proofs.Cut.{is_edge-inside_edges}
use Rattle.path_decompose.proofs.EdgeLine.{line_of}
use Rattle.path_decompose.proofs.Once.{count_by-line, odd_by-no_edge}
use Rattle.path_decompose.proofs.Parity.{odd_by}
use Rattle.path_decompose.proofs.Sums.{count_by-map}
use Rattle.path_decompose.proofs.Walked.{walk_circuit, walk_lines, walk_inside}

-- the edges of the inside are the lines along which the walk goes an odd number of times
walk_edges : (b : Image) (policy : Policy) (sign : Sign) (x y : ℕ) (points : List Point) → IsFirstBlack b x y → (w : IsBoundaryWalk b policy sign x y points)
    → (l : GridEdge) → is_edge (inside points) l ≡ odd_by (λ e. same_line l (line_of e)) w.edges
walk_edges b policy sign x y points first w l =
    let c = walk_circuit b policy sign x y points first w in
    ap (λ i. is_edge i l) (walk_inside b policy sign x y points first w)
    ∙ is_edge-inside_edges b policy sign (first_edge x y) w.edges c.boundary c.closes l

-- the path runs once along each of them, and along no other line
pub walk_once : (b : Image) (policy : Policy) (sign : Sign) (x y : ℕ) (points : List Point) → IsFirstBlack b x y → IsBoundaryWalk b policy sign x y points
    → (l : GridEdge) → count_by (same_line l) (lines_of points) ≡ cond (is_edge (inside points) l) 1 0
walk_once b policy sign x y points first w l =
    let c = walk_circuit b policy sign x y points first w in
    ap (count_by (same_line l)) (walk_lines b policy sign x y points first w)
    ∙ count_by-map (same_line l) line_of w.edges
    ∙ count_by-line b policy sign (first_edge x y) w.edges c l
    ∙ ap (λ t. cond t 1 0) (sym (walk_edges b policy sign x y points first w l))

-- and they are edges of the image
pub walk_there : (b : Image) (policy : Policy) (sign : Sign) (x y : ℕ) (points : List Point) → IsFirstBlack b x y → IsBoundaryWalk b policy sign x y points
    → (l : GridEdge) → is_edge (inside points) l ≡ true → is_edge b l ≡ true
walk_there b policy sign x y points first w l on =
    let c = walk_circuit b policy sign x y points first w in
    elim (cases_Bool (is_edge b l)) [
      | inl edge ↦ edge
      | inr none ↦ absurd (false≢true (sym (odd_by-no_edge b policy sign (first_edge x y) w.edges c l none) ∙ sym (walk_edges b policy sign x y points first w l) ∙ on))
    ]

-- its points are a closed walk over the corners of a page that the image fits
pub walk_closed : (b : Image) (policy : Policy) (sign : Sign) (x y : ℕ) (points : List Point) (width height : ℕ) → IsFirstBlack b x y → IsBoundaryWalk b policy sign x y points
    → Fits b width height → width ≤ LONGEST_SIDE → height ≤ LONGEST_SIDE → IsClosedWalk points
walk_closed b policy sign x y points width height first w fits narrow low =
    subst IsClosedWalk (sym w.starts) (closed_walk b policy sign (first_edge x y) w.edges (walk_circuit b policy sign x y points first w) width height fits narrow low)

pub walk_corners : (b : Image) (policy : Policy) (sign : Sign) (x y : ℕ) (points : List Point) (width height : ℕ) → IsFirstBlack b x y → IsBoundaryWalk b policy sign x y points
    → Fits b width height → All (IsCornerOf width height) points
walk_corners b policy sign x y points width height first w fits =
    subst (All (IsCornerOf width height)) (sym w.starts) (corners b policy sign (first_edge x y) w.edges (walk_circuit b policy sign x y points first w) width height fits)
