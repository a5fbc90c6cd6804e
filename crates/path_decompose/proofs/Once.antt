-- A path goes along each of its lines once.
use Rattle.std.proofs.Common.{◌≡◌, ◌≢◌, ℕ, zero, suc, ◌+◌, Bool, true, false, cond, List, [], ◌∷◌, AllPairs, All, get_or, count_by, refl, ap, sym, ◌∙◌, inl, inr, arith}
use Rattle.std.proofs.lemmas.Bool.{cases_Bool, eqb-true, and_parts, false≢true}
use Rattle.std.proofs.lemmas.List.Elements.{All-head, All-tail}
use Rattle.std.proofs.lemmas.List.Sums.{sum_by-cons}
use Rattle.pt_core.specs.declared.path.Sign.{Sign}
use Rattle.pt_core.specs.declared.policy.Policy.{Policy}
use Rattle.bit_image.specs.Image.{Image, south_west, differ}
use Rattle.turn_policies.specs.declared.heading.Dir.{Dir}
use Rattle.turn_policies.specs.declared.heading.Dir.TheVariants.{North, East, South, West}
use Rattle.turn_policies.specs.declared.edge.Edge.{Edge}
use Rattle.turn_policies.specs.Boundary.{IsBoundary, left_pixel, right_pixel}
use Rattle.boundary_edges.specs.GridEdges.{GridEdge, upright, level, same_line, is_edge}
use Rattle.path_decompose.proofs.Parity.{odd_by}
use Rattle.path_decompose.proofs.EdgeLine.{step_line, line_of}
use Rattle.path_decompose.proofs.Round.{IsCircuit, all_boundary}

pub same_line-true : (l m : GridEdge) → same_line l m ≡ true → l ≡ m
same_line-true (upright x y) (upright u v) h =
    let parts = and_parts _ _ h in
    ap (λ w. upright w y) (eqb-true x u parts.0) ∙ ap (upright u) (eqb-true y v parts.1)
same_line-true (level x y) (level u v) h =
    let parts = and_parts _ _ h in
    ap (λ w. level w y) (eqb-true x u parts.0) ∙ ap (level u) (eqb-true y v parts.1)
same_line-true (upright x y) (level u v) h = cc
same_line-true (level x y) (upright u v) h = cc

-- the way along a line that has black on its left
edge_along : Image → GridEdge → Edge
edge_along b (upright x y) = cond (south_west b x (suc y)) (record { x = x; y = y; heading = North }) (record { x = x; y = suc y; heading = South })
edge_along b (level x y) = cond (south_west b (suc x) y) (record { x = suc x; y = y; heading = West }) (record { x = x; y = y; heading = East })

edge_along-step_line : (b : Image) (x y : ℕ) (d : Dir) → left_pixel (south_west b) x y d ≡ true → right_pixel (south_west b) x y d ≡ false
    → let e : Edge = record { x = x; y = y; heading = d } in edge_along b (step_line x y d) ≡ e
unfolding edge_along
edge_along-step_line b x y North black white = rw black refl
edge_along-step_line b x y East black white = rw white refl
edge_along-step_line b x zero South black white = cc
edge_along-step_line b x (suc y) South black white = rw white refl
edge_along-step_line b zero y West black white = cc
edge_along-step_line b (suc x) y West black white = rw black refl

-- a boundary edge is the only one along its line
edge_along-line_of : (b : Image) (e : Edge) → IsBoundary b e → edge_along b (line_of e) ≡ e
edge_along-line_of b e h = edge_along-step_line b e.x e.y e.heading h.black_left h.white_right

pub none_passes : {A : Type 0} (f : A → Bool) (es : List A) → All (λ e. f e ≡ false) es → (odd_by f es ≡ false) × (count_by f es ≡ 0)
none_passes f [] h = (refl, refl)
none_passes f (e ∷ es) h =
    let no : f e ≡ false = All-head (λ w. f w ≡ false) e es h in
    let rest = none_passes f es (All-tail (λ w. f w ≡ false) e es h) in
    (ap (λ b. differ b (odd_by f es)) no ∙ rest.0, sum_by-cons (λ w. cond (f w) 1 0) e es ∙ ap (λ b. cond b 1 0 + count_by f es) no ∙ omega (arith, rest.1))

one_passes : {A : Type 0} (f : A → Bool) (a e : A) (es : List A) → f e ≡ true → e ≡ a → All (λ w. f w ≡ true → w ≡ a) es → All (λ w. e ≢ w) es → All (λ w. f w ≡ false) es
one_passes f a e es passes at only apart = λ k d below.
    elim (cases_Bool (f (get_or es k d))) [ inl t ↦ absurd (apart k d below (at ∙ sym (only k d below t))) | inr n ↦ n ]

count_step : (t o : Bool) (c : ℕ) → (t ≡ true → (o ≡ false) × (c ≡ 0)) → (t ≡ false → c ≡ cond o 1 0) → cond t 1 0 + c ≡ cond (differ t o) 1 0
count_step true o c at_true at_false =
    let none = at_true refl in
    rw none.0 (omega (arith, none.1))
count_step false o c at_true at_false = omega (arith, at_false refl)

-- of different elements only one passes a test that holds at a alone
count_once : {A : Type 0} (f : A → Bool) (a : A) (es : List A) → All (λ e. f e ≡ true → e ≡ a) es → AllPairs (λ d e. d ≢ e) es → count_by f es ≡ cond (odd_by f es) 1 0
count_once f a [] only distinct = refl
count_once f a (e ∷ es) only distinct =
    sum_by-cons (λ w. cond (f w) 1 0) e es
    ∙ count_step (f e) (odd_by f es) (count_by f es)
    (λ passes. none_passes f es (one_passes f a e es passes (only 0 e (omega arith) passes) (λ k d below. only (suc k) d (omega arith)) (λ k d below. distinct 0 (suc k) d (omega arith) (omega arith))))
    (λ fails. count_once f a es (λ k d below. only (suc k) d (omega arith)) (λ i j d before below. distinct (suc i) (suc j) d (omega arith) (omega arith)))

-- a path goes along a line once or never
pub count_by-line : (b : Image) (policy : Policy) (sign : Sign) (s : Edge) (es : List Edge) → IsCircuit b policy sign s es → (l : GridEdge) → count_by (λ e. same_line l (line_of e)) es ≡ cond (odd_by (λ e. same_line l (line_of e)) es) 1 0
count_by-line b policy sign s es c l =
    count_once (λ e. same_line l (line_of e)) (edge_along b l) es
    (λ k d below passes. sym (ap (edge_along b) (same_line-true l (line_of (get_or es k d)) passes) ∙ edge_along-line_of b (get_or es k d) (all_boundary b policy sign s es c k d below)))
    c.distinct

is_edge-along : (b : Image) (x y : ℕ) (d : Dir) → left_pixel (south_west b) x y d ≡ true → right_pixel (south_west b) x y d ≡ false → is_edge b (step_line x y d) ≡ true
is_edge-along b x y North black white = rw (black, white) refl
is_edge-along b x y East black white = rw (black, white) refl
is_edge-along b x zero South black white = cc
is_edge-along b x (suc y) South black white = rw (black, white) refl
is_edge-along b zero y West black white = cc
is_edge-along b (suc x) y West black white = rw (black, white) refl

-- a boundary edge runs between a black and a white pixel
pub is_edge-line_of : (b : Image) (e : Edge) → IsBoundary b e → is_edge b (line_of e) ≡ true
is_edge-line_of b e h = is_edge-along b e.x e.y e.heading h.black_left h.white_right

-- a path goes along no line but those between a black and a white pixel
pub odd_by-no_edge : (b : Image) (policy : Policy) (sign : Sign) (s : Edge) (es : List Edge) → IsCircuit b policy sign s es → (l : GridEdge) → is_edge b l ≡ false → odd_by (λ e. same_line l (line_of e)) es ≡ false
odd_by-no_edge b policy sign s es c l white =
    (none_passes (λ e. same_line l (line_of e)) es
    (λ k d below. elim (cases_Bool (same_line l (line_of (get_or es k d)))) [
      | inl t ↦ absurd (false≢true (sym white ∙ ap (is_edge b) (same_line-true l (line_of (get_or es k d)) t) ∙ is_edge-line_of b (get_or es k d) (all_boundary b policy sign s es c k d below)))
      | inr n ↦ n
    ])).0
