-- The walk along the boundary edges of an image (Selinger, "Potrace", 2003, section 2.1.1).
use Rattle.std.specs.Prelude.{◌≡◌, ◌≢◌, ℕ, suc, ◌≤◌, pos, List, [], ◌∷◌, map, length, AllPairs}
use Rattle.pt_core.specs.declared.point.Point.{Point}
use Rattle.pt_core.specs.declared.path.Sign.{Sign}
use Rattle.pt_core.specs.declared.policy.Policy.{Policy}
use Rattle.bit_image.specs.Image.{Image}
use Rattle.turn_policies.specs.declared.heading.Dir.TheVariants.{South}
use Rattle.turn_policies.specs.declared.edge.Edge.{Edge}
use Rattle.turn_policies.specs.Turn.{next}

-- the corner where an edge begins
abbrev pub start_of : Edge → Point
start_of e = record { x = pos e.x; y = pos e.y }

-- the left side of pixel (x, y), walked down
abbrev pub first_edge : ℕ → ℕ → Edge
first_edge x y = record { x = x; y = suc y; heading = South }

-- the edges begin with `from`, each one is followed by the next one of `step`, and the last by `after`
abbrev pub IsTrail : (Edge → Edge) → Edge → List Edge → Edge → Type 0
IsTrail step from [] after = from ≡ after
IsTrail step from (e ∷ es) after = (e ≡ from) × IsTrail step (step e) es after

-- The edges go once round in the image, under a policy and on a path of that sign: down the left side of
-- pixel (x, y), on by the turns, and back to the first edge. No edge comes twice.
pub record IsRoundTrip (b : Image) (policy : Policy) (sign : Sign) (x y : ℕ) (edges : List Edge) : Type 0 where
  pub some : 1 ≤ length edges
  pub closes : IsTrail (next b policy sign) (first_edge x y) edges (first_edge x y)
  pub distinct : AllPairs (λ d e. d ≢ e) edges

-- the points are where the edges of such a round begin
pub record IsBoundaryWalk (b : Image) (policy : Policy) (sign : Sign) (x y : ℕ) (points : List Point) : Type 0 where
  pub edges : List Edge
  pub round : IsRoundTrip b policy sign x y edges
  pub starts : points ≡ map start_of edges
