-- The lines that the edges of a walk run along.
use Rattle.std.proofs.Common.{◌≡◌, ℕ, zero, suc, pred, Bool, true, List, [], ◌∷◌, map, refl, ap, sym, subst, ◌∙◌, arith}
use Rattle.std.proofs.lemmas.Bool.Decides.{nat_tests}
use Rattle.pt_core.specs.declared.path.Sign.{Sign}
use Rattle.pt_core.specs.declared.policy.Policy.{Policy}
use Rattle.bit_image.specs.Image.{Image, south_west, differ}
use Rattle.turn_policies.specs.declared.heading.Dir.{Dir}
use Rattle.turn_policies.specs.declared.heading.Dir.TheVariants.{North, East, South, West}
use Rattle.turn_policies.specs.declared.edge.Edge.{Edge}
use Rattle.turn_policies.specs.Heading.{end_x, end_y}
use Rattle.turn_policies.specs.Boundary.{IsBoundary, left_pixel}
use Rattle.turn_policies.specs.Turn.{next}
use Rattle.boundary_edges.specs.GridEdges.{GridEdge, upright, level}
use Rattle.path_decompose.specs.Walk.{IsTrail, start_of}
use Rattle.boundary_edges.specs.Inside.{line_at, line_between, lines_to, lines_of, is_crossed, inside}
use Rattle.path_decompose.proofs.Parity.{odd_by, is_odd-count}
use Rattle.turn_policies.proofs.TurnedEdges.{next_boundary}

-- the line along which a step leaves corner (x, y)
abbrev pub step_line : ℕ → ℕ → Dir → GridEdge
step_line x y North = upright x y
step_line x y East = level x y
step_line x y South = upright x (pred y)
step_line x y West = level (pred x) y

-- the line that an edge runs along
abbrev pub line_of : Edge → GridEdge
line_of e = step_line e.x e.y e.heading

-- a step south begins above row 0, and a step west right of column 0, since the pixel on its left is black
line_at_end : (b : Image) (x y : ℕ) (d : Dir) → left_pixel (south_west b) x y d ≡ true → line_at x y (end_x x d) (end_y y d) ≡ step_line x y d
line_at_end b x y North h = grind (arith, nat_tests)
line_at_end b x y East h = grind (arith, nat_tests)
line_at_end b x zero South h = cc
line_at_end b x (suc y) South h = grind (arith, nat_tests)
line_at_end b zero y West h = cc
line_at_end b (suc x) y West h = grind (arith, nat_tests)

-- from where a boundary edge begins to where the next one does runs its own line
pub line_between-next : (b : Image) (policy : Policy) (sign : Sign) (e : Edge) → IsBoundary b e → line_between (start_of e) (start_of (next b policy sign e)) ≡ line_of e
line_between-next b policy sign e h = line_at_end b e.x e.y e.heading h.black_left

lines_to-run : (b : Image) (policy : Policy) (sign : Sign) (e : Edge) (es : List Edge) (z : Edge) → IsBoundary b e → IsTrail (next b policy sign) (next b policy sign e) es z → lines_to (start_of z) (start_of e) (map start_of es) ≡ line_of e ∷ map line_of es
lines_to-run b policy sign e [] z h run =
    ap (λ w. line_between (start_of e) (start_of w) ∷ []) (sym run) ∙ ap (λ l. l ∷ []) (line_between-next b policy sign e h)
lines_to-run b policy sign e (d ∷ ds) z h run =
    let hd : IsBoundary b d = subst (IsBoundary b) (sym run.0) (next_boundary b policy sign e h) in
    ap (λ w. line_between (start_of e) (start_of w) ∷ lines_to (start_of z) (start_of d) (map start_of ds)) run.0
    ∙ ap (λ l. l ∷ lines_to (start_of z) (start_of d) (map start_of ds)) (line_between-next b policy sign e h)
    ∙ ap (λ ls. line_of e ∷ ls) (lines_to-run b policy sign d ds z hd run.1)

-- the lines of a walk's points are the lines that its edges run along
pub lines_of-run : (b : Image) (policy : Policy) (sign : Sign) (s : Edge) (es : List Edge) → IsBoundary b s → IsTrail (next b policy sign) s es s → lines_of (map start_of es) ≡ map line_of es
lines_of-run b policy sign s [] h run = refl
lines_of-run b policy sign s (e ∷ es) h run =
    ap (λ w. lines_to (start_of w) (start_of e) (map start_of es)) run.0
    ∙ lines_to-run b policy sign e es s (subst (IsBoundary b) (sym run.0) h) run.1

pub odd_by-map : {A B : Type 0} (f : B → Bool) (g : A → B) (xs : List A) → odd_by f (map g xs) ≡ odd_by (λ x. f (g x)) xs
odd_by-map f g [] = refl
odd_by-map f g (x ∷ xs) = ap (differ (f (g x))) (odd_by-map f g xs)

-- the pixels into which an odd number of the edges is crossed
abbrev pub inside_edges : List Edge → Image
inside_edges es x y = odd_by (λ e. is_crossed x y (line_of e)) es

pub inside-run : (b : Image) (policy : Policy) (sign : Sign) (s : Edge) (es : List Edge) → IsBoundary b s → IsTrail (next b policy sign) s es s → (x y : ℕ) → inside (map start_of es) x y ≡ inside_edges es x y
inside-run b policy sign s es h run x y =
    is_odd-count (is_crossed x y) (lines_of (map start_of es))
    ∙ ap (odd_by (is_crossed x y)) (lines_of-run b policy sign s es h run)
    ∙ odd_by-map (is_crossed x y) line_of es
