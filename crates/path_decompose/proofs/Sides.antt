-- Along a path what is on its left is inside it, and what is on its right is not: its edges are boundary edges of its inside.
use Rattle.std.proofs.Common.{◌≡◌, ℕ, zero, suc, ◌<◌, ◌≤◌, ◌+◌, Bool, true, false, cond, nat_eq, List, [], ◌∷◌, length, get_or, All, count_by, refl, ap, sym, subst, ◌∙◌, inr, arith}
use Rattle.std.proofs.lemmas.Bool.{and_from, eq-eqb, false≢true}
use Rattle.std.proofs.lemmas.List.Sums.{sum_by-cons}
use Rattle.std.proofs.lemmas.List.Elements.{All-head, All-tail, All-nil, All-cons}
use Rattle.pt_core.specs.declared.path.Sign.{Sign}
use Rattle.pt_core.specs.declared.policy.Policy.{Policy}
use Rattle.bit_image.specs.Image.{Image, south_west, differ}
use Rattle.bit_image.specs.FirstBlack.{IsFirstBlack}
use Rattle.turn_policies.specs.declared.heading.Dir.{Dir}
use Rattle.turn_policies.specs.declared.heading.Dir.TheVariants.{North, East, South, West}
use Rattle.turn_policies.specs.declared.edge.Edge.{Edge}
use Rattle.turn_policies.specs.Boundary.{IsBoundary, left_pixel, right_pixel}
use Rattle.turn_policies.specs.Heading.{left_of, right_of, end_x, end_y}
use Rattle.turn_policies.specs.Majority.{major}
use Rattle.turn_policies.specs.Turn.{goes_right, turn_of, next}
use Rattle.turn_policies.proofs.TurnedEdges.{left_behind, right_behind, left_pixel-left_of, right_pixel-left_of, right_pixel-right_of, left_behind-end, right_behind-end, next_boundary}
use Rattle.boundary_edges.specs.GridEdges.{GridEdge, upright, level, same_line, is_edge}
use Rattle.path_decompose.specs.Walk.{IsTrail, first_edge}
use Rattle.path_decompose.proofs.Cut.{is_edge-inside_edges}
use Rattle.path_decompose.proofs.EdgeLine.{step_line, line_of, inside_edges}
use Rattle.path_decompose.proofs.Once.{count_by-line, odd_by-no_edge}
use Rattle.path_decompose.proofs.Parity.{odd_by}
use Rattle.path_decompose.proofs.Round.{IsCircuit}
use Rattle.path_decompose.proofs.Start.{inside_before, inside_start, odd_from_some}

differ_turned : (a b : Bool) → differ a b ≡ differ b a
differ_turned true true = refl
differ_turned true false = refl
differ_turned false true = refl
differ_turned false false = refl

-- a line has on its sides the pixels on the left and the right of an edge along it (which has black on its left in some image, so
-- that it doesn't step below zero)
is_edge-sides : (b w : Image) (x y : ℕ) (d : Dir) → left_pixel (south_west b) x y d ≡ true → is_edge w (step_line x y d) ≡ differ (left_pixel (south_west w) x y d) (right_pixel (south_west w) x y d)
is_edge-sides b w x y North h = refl
is_edge-sides b w x y East h = differ_turned (south_west w (suc x) y) (south_west w (suc x) (suc y))
is_edge-sides b w x zero South h = absurd (false≢true h)
is_edge-sides b w x (suc y) South h = differ_turned (south_west w x (suc y)) (south_west w (suc x) (suc y))
is_edge-sides b w zero y West h = absurd (false≢true h)
is_edge-sides b w (suc x) y West h = refl

other_white : (p q : Bool) → differ p q ≡ true → p ≡ true → q ≡ false
other_white p true h e = absurd (false≢true (sym (ap (λ t. differ t true) e) ∙ h))
other_white p false h e = refl

other_black : (p q : Bool) → differ p q ≡ true → q ≡ false → p ≡ true
other_black true q h e = refl
other_black false q h e = absurd (false≢true (sym e ∙ h))

neither : (p q : Bool) → differ p q ≡ false → p ≡ true → q ≡ true
neither p true h e = refl
neither p false h e = absurd (false≢true (sym h ∙ ap (λ t. differ t false) e))

-- black on the left of an edge is black on the left and white on the right, in an image in which its line has both on its sides
by_left : (b w : Image) (x y : ℕ) (t : Dir) → left_pixel (south_west b) x y t ≡ true → is_edge w (step_line x y t) ≡ true
    → left_pixel (south_west w) x y t ≡ true → (left_pixel (south_west w) x y t ≡ true) × (right_pixel (south_west w) x y t ≡ false)
by_left b w x y t black edge h = (h, other_white _ _ (sym (is_edge-sides b w x y t black) ∙ edge) h)

by_right : (b w : Image) (x y : ℕ) (t : Dir) → left_pixel (south_west b) x y t ≡ true → is_edge w (step_line x y t) ≡ true
    → right_pixel (south_west w) x y t ≡ false → (left_pixel (south_west w) x y t ≡ true) × (right_pixel (south_west w) x y t ≡ false)
by_right b w x y t black edge h = (other_black _ _ (sym (is_edge-sides b w x y t black) ∙ edge) h, h)

-- A turn to the left keeps the pixel on the left, one to the right that on the right. Straight on, the pixel ahead is as black as the
-- one behind, so that no edge of b runs between them.
after_turn : (b w : Image) (x y : ℕ) (l r g : Bool) (d : Dir) → ((m : GridEdge) → is_edge b m ≡ false → is_edge w m ≡ false)
    → left_pixel (south_west b) x y d ≡ l → left_behind (south_west b) x y d ≡ true
    → left_behind (south_west w) x y d ≡ true → right_behind (south_west w) x y d ≡ false
    → left_pixel (south_west b) x y (turn_of l r g d) ≡ true → is_edge w (step_line x y (turn_of l r g d)) ≡ true
    → (left_pixel (south_west w) x y (turn_of l r g d) ≡ true) × (right_pixel (south_west w) x y (turn_of l r g d) ≡ false)
after_turn b w x y false true true d none ahead behind left right black edge =
    by_right b w x y (right_of d) black edge (right_pixel-right_of (south_west w) x y d ∙ right)
after_turn b w x y false true false d none ahead behind left right black edge =
    by_left b w x y (left_of d) black edge (left_pixel-left_of (south_west w) x y d ∙ left)
after_turn b w x y true true g d none ahead behind left right black edge =
    by_right b w x y (right_of d) black edge (right_pixel-right_of (south_west w) x y d ∙ right)
after_turn b w x y false false g d none ahead behind left right black edge =
    by_left b w x y (left_of d) black edge (left_pixel-left_of (south_west w) x y d ∙ left)
after_turn b w x y true false g d none ahead behind left right black edge =
    let side : left_pixel (south_west b) x y (left_of d) ≡ true = left_pixel-left_of (south_west b) x y d ∙ behind in
    let here : right_pixel (south_west b) x y (left_of d) ≡ true = right_pixel-left_of (south_west b) x y d ∙ ahead in
    let apart : is_edge b (step_line x y (left_of d)) ≡ false =
    is_edge-sides b b x y (left_of d) side ∙ ap (λ p. differ p (right_pixel (south_west b) x y (left_of d))) side ∙ ap (differ true) here in
    let same : differ (left_pixel (south_west w) x y (left_of d)) (right_pixel (south_west w) x y (left_of d)) ≡ false =
    sym (is_edge-sides b w x y (left_of d) side) ∙ none (step_line x y (left_of d)) apart in
    by_left b w x y d black edge
    (sym (right_pixel-left_of (south_west w) x y d) ∙ neither _ _ same (left_pixel-left_of (south_west w) x y d ∙ left))

-- the edge that follows a boundary edge of both images is one of both, where its line is one of w's and w has no edge that b hasn't
next_boundary_of : (b w : Image) (policy : Policy) (sign : Sign) (e : Edge) → ((m : GridEdge) → is_edge b m ≡ false → is_edge w m ≡ false)
    → IsBoundary b e → IsBoundary w e → is_edge w (line_of (next b policy sign e)) ≡ true → IsBoundary w (next b policy sign e)
next_boundary_of b w policy sign e none hb hw edge =
    let x : ℕ = end_x e.x e.heading in
    let y : ℕ = end_y e.y e.heading in
    let both = after_turn b w x y (left_pixel (south_west b) x y e.heading) (right_pixel (south_west b) x y e.heading) (goes_right policy sign (major b x y)) e.heading
    none refl (left_behind-end b e.x e.y e.heading hb.black_left ∙ hb.black_left)
    (left_behind-end w e.x e.y e.heading hw.black_left ∙ hw.black_left)
    (right_behind-end w e.x e.y e.heading hw.black_left ∙ hw.white_right)
    (next_boundary b policy sign e hb).black_left edge in
    record { black_left = both.0; white_right = both.1 }

-- ---- each edge of a round

same_line-same : (l : GridEdge) → same_line l l ≡ true
same_line-same (upright x y) = and_from (nat_eq x x) (nat_eq y y) (eq-eqb x x refl) (eq-eqb y y refl)
same_line-same (level x y) = and_from (nat_eq x x) (nat_eq y y) (eq-eqb x x refl) (eq-eqb y y refl)

some_passes : {A : Type 0} (f : A → Bool) (es : List A) (k : ℕ) (d : A) → k < length es → f (get_or es k d) ≡ true → 1 ≤ count_by f es
some_passes f [] k d below passes = absurd (omega arith)
some_passes f (e ∷ es) zero d below passes =
    let first : count_by f (e ∷ es) ≡ 1 + count_by f es = sum_by-cons (λ w. cond (f w) 1 0) e es ∙ ap (λ t. cond t 1 0 + count_by f es) passes in
    omega arith
some_passes f (e ∷ es) (suc k) d below passes =
    let rest : 1 ≤ count_by f es = some_passes f es k d (omega arith) passes in
    let all : count_by f (e ∷ es) ≡ cond (f e) 1 0 + count_by f es = sum_by-cons (λ w. cond (f w) 1 0) e es in
    omega arith

-- the line of each edge of a round is one of its inside
line_within : (b : Image) (policy : Policy) (sign : Sign) (s : Edge) (es : List Edge) → IsCircuit b policy sign s es → All (λ e. is_edge (inside_edges es) (line_of e) ≡ true) es
line_within b policy sign s es c = λ k d below.
    let l : GridEdge = line_of (get_or es k d) in
    let some : 1 ≤ count_by (λ e. same_line l (line_of e)) es = some_passes (λ e. same_line l (line_of e)) es k d below (same_line-same l) in
    is_edge-inside_edges b policy sign s es c.boundary c.closes l
    ∙ odd_from_some (odd_by (λ e. same_line l (line_of e)) es) (omega (arith, some, count_by-line b policy sign s es c l))

along : (b w : Image) (policy : Policy) (sign : Sign) (es : List Edge) (s z : Edge) → ((m : GridEdge) → is_edge b m ≡ false → is_edge w m ≡ false)
    → IsBoundary b s → IsBoundary w s → IsTrail (next b policy sign) s es z → All (λ e. is_edge w (line_of e) ≡ true) es → All (IsBoundary w) es
along b w policy sign [] s z none hb hw run lines = All-nil (IsBoundary w)
along b w policy sign (e ∷ []) s z none hb hw run lines =
    All-cons (IsBoundary w) e [] (subst (IsBoundary w) (sym run.0) hw) (All-nil (IsBoundary w))
along b w policy sign (e ∷ d ∷ ds) s z none hb hw run lines =
    let heb : IsBoundary b e = subst (IsBoundary b) (sym run.0) hb in
    let hew : IsBoundary w e = subst (IsBoundary w) (sym run.0) hw in
    let rest : All (λ f. is_edge w (line_of f) ≡ true) (d ∷ ds) = All-tail (λ f. is_edge w (line_of f) ≡ true) e (d ∷ ds) lines in
    let line : is_edge w (line_of d) ≡ true = All-head (λ f. is_edge w (line_of f) ≡ true) d ds rest in
    let after : IsBoundary w (next b policy sign e) =
    next_boundary_of b w policy sign e none heb hew (subst (λ f. is_edge w (line_of f) ≡ true) run.1.0 line) in
    All-cons (IsBoundary w) e (d ∷ ds) hew (along b w policy sign (d ∷ ds) (next b policy sign e) z none (next_boundary b policy sign e heb) after run.1 rest)

first_right_of : (w : Image) (x y : ℕ) → ((u : ℕ) → u < x → w u y ≡ false) → south_west w x (suc y) ≡ false
first_right_of w zero y left = refl
first_right_of w (suc x) y left = left x (omega arith)

-- the edges of a path are boundary edges of its inside
pub boundary_within : (b : Image) (policy : Policy) (sign : Sign) (x y : ℕ) (es : List Edge) → IsFirstBlack b x y → IsCircuit b policy sign (first_edge x y) es → All (IsBoundary (inside_edges es)) es
boundary_within b policy sign x y es first c =
    let s : Edge = first_edge x y in
    let start : IsBoundary (inside_edges es) s = record {
      black_left = inside_start b policy sign x y es first c;
      white_right = first_right_of (inside_edges es) x y (λ u left. inside_before b policy sign x y u y es first c (inr (refl, left)));
    } in
    along b (inside_edges es) policy sign es s s
    (λ m white. is_edge-inside_edges b policy sign s es c.boundary c.closes m ∙ odd_by-no_edge b policy sign s es c m white)
    c.boundary start c.closes (line_within b policy sign s es c)
