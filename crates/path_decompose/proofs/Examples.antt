-- The definitions on small pages.
use Rattle.std.proofs.Common.{◌≡◌, ℕ, Bool, true, false, pos, List, [], ◌∷◌, map, refl}
use Rattle.pt_core.specs.declared.point.Point.{Point}
use Rattle.pt_core.specs.declared.path.Sign.TheVariants.{Plus}
use Rattle.pt_core.specs.declared.policy.Policy.TheVariants.{Left, Right, Minority}
use Rattle.bit_image.specs.Page.{Page, image_of}
use Rattle.turn_policies.specs.declared.heading.Dir.{Dir}
use Rattle.turn_policies.specs.declared.heading.Dir.TheVariants.{North, East, South, West}
use Rattle.turn_policies.specs.declared.edge.Edge.{Edge}
use Rattle.turn_policies.specs.Majority.{black_in_ring, white_in_ring, major}
use Rattle.turn_policies.specs.Turn.{next}
use Rattle.boundary_edges.specs.GridEdges.{upright, level, is_edge}
use Rattle.path_decompose.specs.Walk.{start_of, first_edge, IsTrail}
use Rattle.boundary_edges.specs.Inside.{lines_of, inside, black_count}
use Rattle.path_decompose.specs.Decomposition.{inverted}

abbrev edge : ℕ → ℕ → Dir → Edge
edge x y heading = record { x = x; y = y; heading = heading }

abbrev corner : ℕ → ℕ → Point
corner x y = record { x = pos x; y = pos y }

-- #.
-- .#
diagonal : Page
diagonal = record { width = 2; height = 2; rows = (false ∷ true ∷ []) ∷ (true ∷ false ∷ []) ∷ [] }

-- the upper left pixel alone
apart : List Edge
apart = edge 0 2 South ∷ edge 0 1 East ∷ edge 1 1 North ∷ edge 1 2 West ∷ []

-- both pixels, through the corner between them twice
joined : List Edge
joined =
    edge 0 2 South ∷ edge 0 1 East ∷ edge 1 1 South ∷ edge 1 0 East ∷ edge 2 0 North ∷ edge 2 1 West ∷ edge 1 1 North ∷ edge 1 2 West ∷ []

-- under the left policy the walk keeps to its own pixel
left_walk : IsTrail (next (image_of diagonal) Left Plus) (first_edge 0 1) apart (first_edge 0 1)
unfolding diagonal apart image_of
left_walk = (refl, (refl, (refl, (refl, refl))))

-- under the right policy it goes on to the other pixel
right_walk : IsTrail (next (image_of diagonal) Right Plus) (first_edge 0 1) joined (first_edge 0 1)
unfolding diagonal joined image_of
right_walk = (refl, (refl, (refl, (refl, (refl, (refl, (refl, (refl, refl))))))))

-- under minority too, since white has the majority in the ring of twelve pixels around the corner
minority_walk : IsTrail (next (image_of diagonal) Minority Plus) (first_edge 0 1) joined (first_edge 0 1)
unfolding diagonal joined image_of major black_in_ring white_in_ring
minority_walk = (refl, (refl, (refl, (refl, (refl, (refl, (refl, (refl, refl))))))))

-- the lines of a path of four points: the left, lower, right and upper side of pixel (0, 1)
four_lines : lines_of (map start_of apart) ≡ upright 0 1 ∷ level 0 1 ∷ upright 1 1 ∷ level 0 2 ∷ []
unfolding apart
four_lines = refl

-- the pixels of the 2 by 2 page that are inside a path, from the lower left one along the rows
insides : List Point → List Bool
insides points = inside points 0 0 ∷ inside points 1 0 ∷ inside points 0 1 ∷ inside points 1 1 ∷ []

insides_apart : insides (map start_of apart) ≡ false ∷ false ∷ true ∷ false ∷ []
unfolding insides apart
insides_apart = refl

insides_joined : insides (map start_of joined) ≡ false ∷ true ∷ true ∷ false ∷ []
unfolding insides joined
insides_joined = refl

area_joined : black_count (inside (map start_of joined)) 2 2 ≡ 2
unfolding joined
area_joined = refl

-- a path two pixels long around pixels (1, 0) and (1, 1): to its right all is outside again
column : List Point
column = corner 1 2 ∷ corner 1 1 ∷ corner 1 0 ∷ corner 2 0 ∷ corner 2 1 ∷ corner 2 2 ∷ []

inside_column : (inside column 0 1 ∷ inside column 1 1 ∷ inside column 2 1 ∷ inside column 1 2 ∷ []) ≡ false ∷ true ∷ false ∷ false ∷ []
unfolding column
inside_column = refl

-- the left side of pixel (0, 0) lies between two white pixels of the page, and its upper one between white and black
two_lines : (is_edge (image_of diagonal) (upright 0 0) ∷ is_edge (image_of diagonal) (level 0 1) ∷ []) ≡ false ∷ true ∷ []
unfolding diagonal image_of
two_lines = refl

-- once both pixels are inverted, all is white
rest : (inverted (image_of diagonal) (map start_of joined) 1 0 ∷ inverted (image_of diagonal) (map start_of joined) 0 1 ∷ []) ≡ false ∷ false ∷ []
unfolding diagonal joined image_of
rest = refl
