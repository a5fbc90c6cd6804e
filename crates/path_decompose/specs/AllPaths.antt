-- What the paths of a page come to together.
use Rattle.std.specs.Prelude.{◌≡◌, ℕ, cond, List, count_by, sum_by}
use Rattle.pt_core.specs.declared.path.Path.{Path}
use Rattle.bit_image.specs.Image.{Image}
use Rattle.boundary_edges.specs.GridEdges.{GridEdge, same_line, is_edge}
use Rattle.boundary_edges.specs.Inside.{lines_of, is_odd, inside}

-- a pixel is black exactly where it is inside an odd number of the paths
abbrev pub IsEvenOdd : Image → List Path → Type 0
IsEvenOdd page paths = (x y : ℕ) → page x y ≡ is_odd (count_by (λ path. inside path.points x y) paths)

-- the paths run once along each line between a black and a white pixel, and along no other line
abbrev pub IsEdgesOnce : Image → List Path → Type 0
IsEdgesOnce page paths =
    (line : GridEdge) → sum_by (λ path. count_by (same_line line) (lines_of path.points)) paths ≡ cond (is_edge page line) 1 0
