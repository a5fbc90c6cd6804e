-- The path that comes next, by its edges.
use Rattle.std.proofs.Common.{◌≡◌, ℕ, map, ap, ◌∙◌}
use Rattle.pt_core.specs.declared.path.Path.{Path}
use Rattle.pt_core.specs.declared.policy.Policy.{Policy}
use Rattle.bit_image.specs.Image.{Image, Fits, differ}
use Rattle.bit_image.specs.Page.{Page}
use Rattle.boundary_edges.specs.GridEdges.{GridEdge, is_edge, same_line}
use Rattle.boundary_edges.specs.Inside.{lines_of, inside}
use Rattle.boundary_edges.proofs.Differ.{fits_differ}
use Rattle.path_decompose.specs.Walk.{first_edge}
use Rattle.path_decompose.specs.Decomposition.{inverted, IsNextPath}
use Rattle.path_decompose.proofs.Parity.{odd_by}
use Rattle.path_decompose.proofs.EdgeLine.{line_of, inside_edges}
use Rattle.path_decompose.proofs.Cut.{is_edge-inside_edges, is_edge-differ}
use Rattle.path_decompose.proofs.Round.{IsCircuit}
use Rattle.path_decompose.proofs.Walked.{walk_circuit, walk_lines, walk_inside, walk_fits}

pub next_circuit : (page : Page) (policy : Policy) (b : Image) (path : Path) → (n : IsNextPath page policy b path) → IsCircuit b policy path.sign (first_edge n.x n.y) n.walk.edges
next_circuit page policy b path n = walk_circuit b policy path.sign n.x n.y path.points n.first n.walk

pub next_lines : (page : Page) (policy : Policy) (b : Image) (path : Path) → (n : IsNextPath page policy b path) → lines_of path.points ≡ map line_of n.walk.edges
next_lines page policy b path n = walk_lines b policy path.sign n.x n.y path.points n.first n.walk

pub next_inside : (page : Page) (policy : Policy) (b : Image) (path : Path) → (n : IsNextPath page policy b path) → inside path.points ≡ inside_edges n.walk.edges
next_inside page policy b path n = walk_inside b policy path.sign n.x n.y path.points n.first n.walk

-- the inside of a path lies on the page, and so does what is black after it
pub next_fits : (page : Page) (policy : Policy) (b : Image) (path : Path) (width height : ℕ) → (n : IsNextPath page policy b path) → Fits b width height → Fits (inside path.points) width height
next_fits page policy b path width height n fits = walk_fits b policy path.sign n.x n.y path.points width height n.first n.walk fits

pub fits_inverted : (page : Page) (policy : Policy) (b : Image) (path : Path) (width height : ℕ) → IsNextPath page policy b path → Fits b width height → Fits (inverted b path.points) width height
fits_inverted page policy b path width height n fits =
    fits_differ b (inside path.points) width height fits (next_fits page policy b path width height n fits)

-- what the path leaves of the lines between black and white
pub is_edge-inverted : (page : Page) (policy : Policy) (b : Image) (path : Path) → (n : IsNextPath page policy b path) → (l : GridEdge) → is_edge (inverted b path.points) l ≡ differ (is_edge b l) (odd_by (λ e. same_line l (line_of e)) n.walk.edges)
is_edge-inverted page policy b path n l =
    let c = next_circuit page policy b path n in
    is_edge-differ b (inside path.points) l
    ∙ ap (λ i. differ (is_edge b l) (is_edge i l)) (next_inside page policy b path n)
    ∙ ap (differ (is_edge b l)) (is_edge-inside_edges b policy path.sign (first_edge n.x n.y) n.walk.edges c.boundary c.closes l)
