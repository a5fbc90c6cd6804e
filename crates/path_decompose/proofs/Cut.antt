-- A closed walk crosses any cut an even number of times; so the lines between the inside of a path and its outside
-- are the path's own.
use Rattle.std.proofs.Common.{◌≡◌, ℕ, zero, suc, Bool, true, false, ◌&&◌, nat_eq, nat_le, nat_lt, List, [], ◌∷◌, refl, ap, sym, ◌∙◌, arith}
use Rattle.std.proofs.lemmas.Bool.Decides.{nat_tests}
use Rattle.pt_core.specs.declared.path.Sign.{Sign}
use Rattle.pt_core.specs.declared.policy.Policy.{Policy}
use Rattle.bit_image.specs.Image.{Image, south_west, differ}
use Rattle.turn_policies.specs.declared.heading.Dir.{Dir}
use Rattle.turn_policies.specs.declared.heading.Dir.TheVariants.{North, East, South, West}
use Rattle.turn_policies.specs.declared.edge.Edge.{Edge}
use Rattle.turn_policies.specs.Heading.{end_x, end_y}
use Rattle.turn_policies.specs.Boundary.{IsBoundary, left_pixel}
use Rattle.turn_policies.specs.Turn.{next}
use Rattle.boundary_edges.specs.GridEdges.{GridEdge, upright, level, same_line, is_edge, is_in_row}
use Rattle.path_decompose.specs.Walk.{IsTrail}
use Rattle.boundary_edges.specs.Inside.{is_crossed}
use Rattle.boundary_edges.proofs.Differ.{differ_swap, differ_solve}
use Rattle.path_decompose.proofs.Parity.{odd_by, odd_by-differ, odd_by-same, odd_by-closed}
use Rattle.turn_policies.proofs.TurnedEdges.{next_boundary}
use Rattle.path_decompose.proofs.EdgeLine.{step_line, line_of, inside_edges}

-- a step changes whether the walk is above the bottom of row y exactly where it goes through row y
row_step : (b : Image) (y u v : ℕ) (d : Dir) → left_pixel (south_west b) u v d ≡ true → is_in_row y (step_line u v d) ≡ differ (nat_lt y v) (nat_lt y (end_y v d))
row_step b y u v North h = grind (arith, nat_tests)
row_step b y u v East h = grind (arith, nat_tests)
row_step b y u zero South h = cc
row_step b y u (suc v) South h = grind (arith, nat_tests)
row_step b y u v West h = grind (arith, nat_tests)

-- a closed walk has an even number of upright edges in each row
pub row_even : (b : Image) (policy : Policy) (sign : Sign) (s : Edge) (es : List Edge) → IsBoundary b s → IsTrail (next b policy sign) s es s → (y : ℕ) → odd_by (λ e. is_in_row y (line_of e)) es ≡ false
row_even b policy sign s es h run y =
    odd_by-closed (next b policy sign) (IsBoundary b) (next_boundary b policy sign) (λ e. nat_lt y e.y) (λ e. is_in_row y (line_of e))
    (λ e p. row_step b y e.x e.y e.heading p.black_left) es s h run

-- upright lines one column apart
one_step : (u v x y : ℕ) → differ (nat_le u x && nat_eq v y) (nat_le u (suc x) && nat_eq v y) ≡ (nat_eq (suc x) u && nat_eq y v)
one_step u v x y = grind (arith, nat_tests)

first_column : (u v y : ℕ) → (nat_le u zero && nat_eq v y) ≡ (nat_eq zero u && nat_eq y v)
first_column u v y = grind (arith, nat_tests)

crossed_next : (x y : ℕ) (l : GridEdge) → differ (is_crossed x y l) (is_crossed (suc x) y l) ≡ same_line (upright (suc x) y) l
crossed_next x y (upright u v) = one_step u v x y
crossed_next x y (level u v) = refl

crossed_first : (y : ℕ) (l : GridEdge) → is_crossed zero y l ≡ same_line (upright zero y) l
crossed_first y (upright u v) = first_column u v y
crossed_first y (level u v) = refl

upright_cut : (es : List Edge) (x y : ℕ) → is_edge (inside_edges es) (upright x y) ≡ odd_by (λ e. same_line (upright x y) (line_of e)) es
upright_cut es zero y = odd_by-same _ _ (λ e. crossed_first y (line_of e)) es
upright_cut es (suc x) y =
    sym (odd_by-differ (λ e. is_crossed x y (line_of e)) (λ e. is_crossed (suc x) y (line_of e)) es)
    ∙ odd_by-same _ _ (λ e. crossed_next x y (line_of e)) es

-- the line is upright, right below row y, at column x or further left
abbrev is_crossed_below : ℕ → ℕ → GridEdge → Bool
is_crossed_below x y (upright u v) = nat_le u x && nat_eq (suc v) y
is_crossed_below x y (level u v) = false

-- the corner is at height y, at column x or further left
abbrev is_at_height : ℕ → ℕ → ℕ → ℕ → Bool
is_at_height x y u v = nat_le u x && nat_eq v y

-- a step changes that by a line into row y or the row below it, or by the one level line below pixel (x, y)
height_step : (b : Image) (x y u v : ℕ) (d : Dir) → left_pixel (south_west b) u v d ≡ true
    → differ (is_crossed x y (step_line u v d)) (differ (is_crossed_below x y (step_line u v d)) (same_line (level x y) (step_line u v d))) ≡ differ (is_at_height x y u v) (is_at_height x y (end_x u d) (end_y v d))
height_step b x y u v North h = grind (arith, nat_tests)
height_step b x y u v East h = grind (arith, nat_tests)
height_step b x y u zero South h = cc
height_step b x y u (suc v) South h = grind (arith, nat_tests)
height_step b x y zero v West h = cc
height_step b x y (suc u) v West h = grind (arith, nat_tests)

crossed_below_first : (x : ℕ) (l : GridEdge) → is_crossed_below x zero l ≡ false
crossed_below_first x (upright u v) = grind (arith, nat_tests)
crossed_below_first x (level u v) = refl

crossed_below_next : (x y : ℕ) (l : GridEdge) → is_crossed_below x (suc y) l ≡ is_crossed x y l
crossed_below_next x y (upright u v) = grind (arith, nat_tests)
crossed_below_next x y (level u v) = refl

odd_by-none : {A : Type 0} (xs : List A) → odd_by (λ x. false) xs ≡ false
odd_by-none [] = refl
odd_by-none (x ∷ xs) = odd_by-none xs

pixel_below : (es : List Edge) (x y : ℕ) → south_west (inside_edges es) (suc x) y ≡ odd_by (λ e. is_crossed_below x y (line_of e)) es
pixel_below es x zero = sym (odd_by-same _ _ (λ e. crossed_below_first x (line_of e)) es ∙ odd_by-none es)
pixel_below es x (suc y) = sym (odd_by-same _ _ (λ e. crossed_below_next x y (line_of e)) es)

level_cut : (b : Image) (policy : Policy) (sign : Sign) (s : Edge) (es : List Edge) → IsBoundary b s → IsTrail (next b policy sign) s es s → (x y : ℕ) → is_edge (inside_edges es) (level x y) ≡ odd_by (λ e. same_line (level x y) (line_of e)) es
level_cut b policy sign s es h run x y =
    let crossed : Edge → Bool = λ e. is_crossed x y (line_of e) in
    let below : Edge → Bool = λ e. is_crossed_below x y (line_of e) in
    let same : Edge → Bool = λ e. same_line (level x y) (line_of e) in
    let even : odd_by (λ e. differ (crossed e) (differ (below e) (same e))) es ≡ false =
    odd_by-closed (next b policy sign) (IsBoundary b) (next_boundary b policy sign) (λ e. is_at_height x y e.x e.y) (λ e. differ (crossed e) (differ (below e) (same e)))
    (λ e p. height_step b x y e.x e.y e.heading p.black_left) es s h run in
    let parts : odd_by (λ e. differ (crossed e) (differ (below e) (same e))) es ≡ differ (odd_by crossed es) (differ (odd_by below es) (odd_by same es)) =
    odd_by-differ crossed (λ e. differ (below e) (same e)) es ∙ ap (differ (odd_by crossed es)) (odd_by-differ below same es) in
    ap (λ p. differ p (inside_edges es x y)) (pixel_below es x y)
    ∙ differ_solve (odd_by crossed es) (odd_by below es) (odd_by same es) (sym parts ∙ even)

-- the lines between the inside of a closed walk and its outside are those along which it goes an odd number of times
pub is_edge-inside_edges : (b : Image) (policy : Policy) (sign : Sign) (s : Edge) (es : List Edge) → IsBoundary b s → IsTrail (next b policy sign) s es s → (l : GridEdge) → is_edge (inside_edges es) l ≡ odd_by (λ e. same_line l (line_of e)) es
is_edge-inside_edges b policy sign s es h run (upright x y) = upright_cut es x y
is_edge-inside_edges b policy sign s es h run (level x y) = level_cut b policy sign s es h run x y

-- the edges of two images, one inverted where the other is black
pub is_edge-differ : (b c : Image) (l : GridEdge) → is_edge (λ x y. differ (b x y) (c x y)) l ≡ differ (is_edge b l) (is_edge c l)
is_edge-differ b c (upright zero y) = refl
is_edge-differ b c (upright (suc x) y) = differ_swap (b x y) (c x y) (b (suc x) y) (c (suc x) y)
is_edge-differ b c (level x zero) = refl
is_edge-differ b c (level x (suc y)) = differ_swap (b x y) (c x y) (b x (suc y)) (c x (suc y))
