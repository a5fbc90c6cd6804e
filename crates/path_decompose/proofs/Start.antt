-- No pixel before the one where a path starts is inside the path, and that one is.
use Rattle.std.proofs.Common.{◌≡◌, ℕ, zero, suc, ◌+◌, ◌<◌, ◌≤◌, Bool, true, false, cond, ◌⊎◌, nat_eq, nat_le, List, [], ◌∷◌, length, get_or, count_by, refl, ap, sym, ◌∙◌, inl, inr, arith}
use Rattle.std.proofs.lemmas.Bool.{cases_Bool, cases_eq, cases_lt, eq-eqb, eqb-true, leb-true, and_parts, and_from, false≢true}
use Rattle.std.proofs.lemmas.Bool.Decides.{nat_tests}
use Rattle.std.proofs.lemmas.List.Sums.{sum_by-cons}
use Rattle.pt_core.specs.declared.path.Sign.{Sign}
use Rattle.pt_core.specs.declared.policy.Policy.{Policy}
use Rattle.bit_image.specs.Image.{Image, south_west, differ}
use Rattle.bit_image.specs.FirstBlack.{IsFirstBlack}
use Rattle.turn_policies.specs.declared.edge.Edge.{Edge}
use Rattle.turn_policies.specs.Turn.{next}
use Rattle.boundary_edges.specs.GridEdges.{GridEdge, upright, level, same_line, is_edge}
use Rattle.path_decompose.specs.Walk.{IsTrail, first_edge}
use Rattle.boundary_edges.specs.Inside.{is_crossed}
use Rattle.path_decompose.proofs.Parity.{odd_by, odd_by-agree}
use Rattle.path_decompose.proofs.EdgeLine.{line_of, inside_edges}
use Rattle.path_decompose.proofs.Round.{IsCircuit, all_boundary}
use Rattle.path_decompose.proofs.Once.{none_passes, count_by-line, is_edge-line_of}

-- pixel (u, v) comes before pixel (x, y): higher up, or further left in its row
abbrev pub IsEarlierPixel : ℕ → ℕ → ℕ → ℕ → Type 0
IsEarlierPixel u v x y = (y < v) ⊎ ((v ≡ y) × (u < x))

-- all is white before the first black pixel, and on the margin too
white_before : (b : Image) (x y u v : ℕ) → IsFirstBlack b x y → IsEarlierPixel u v x y → b u v ≡ false
white_before b x y u v first (inl above) = first.above u v above
white_before b x y u v first (inr left) = ap (b u) left.0 ∙ first.left u left.1

white_left : (b : Image) (x y u v : ℕ) → IsFirstBlack b x y → (y < v) ⊎ ((v ≡ y) × (u ≤ x)) → south_west b u (suc v) ≡ false
white_left b x y zero v first before = refl
white_left b x y (suc u) v first (inl above) = first.above u v above
white_left b x y (suc u) v first (inr left) = white_before b x y u v first (inr (left.0, omega (arith, left.1)))

-- a line between a black and a white pixel isn't crossed on the way to a pixel before the first black one
not_crossed_before : (b : Image) (x y u v : ℕ) (l : GridEdge) → IsFirstBlack b x y → IsEarlierPixel u v x y → is_edge b l ≡ true → is_crossed u v l ≡ false
not_crossed_before b x y u v (level a c) first before edge = refl
not_crossed_before b x y u v (upright a c) first before edge =
    elim (cases_Bool (is_crossed u v (upright a c))) [
      | inl crossed ↦
          let parts = and_parts (nat_le a u) (nat_eq c v) crossed in
          let column : a ≤ u = leb-true a u parts.0 in
          let row : c ≡ v = eqb-true c v parts.1 in
          let here : IsEarlierPixel a c x y = elim before [ inl above ↦ inl (omega arith) | inr left ↦ inr (row ∙ left.0, omega (arith, left.1)) ] in
          let west : south_west b a (suc c) ≡ false = white_left b x y a c first (elim before [ inl above ↦ inl (omega arith) | inr left ↦ inr (row ∙ left.0, omega (arith, left.1)) ]) in
          let white : is_edge b (upright a c) ≡ false = ap (λ p. differ p (b a c)) west ∙ white_before b x y a c first here in
          absurd (false≢true (sym white ∙ edge))
      | inr not_crossed ↦ not_crossed
    ]

pub inside_before : (b : Image) (policy : Policy) (sign : Sign) (x y u v : ℕ) (es : List Edge) → IsFirstBlack b x y → IsCircuit b policy sign (first_edge x y) es → IsEarlierPixel u v x y → inside_edges es u v ≡ false
inside_before b policy sign x y u v es first c before =
    (none_passes (λ e. is_crossed u v (line_of e)) es
    (λ k d short. not_crossed_before b x y u v (line_of (get_or es k d)) first before (is_edge-line_of b (get_or es k d) (all_boundary b policy sign (first_edge x y) es c k d short)))).0

-- of the lines between a black and a white pixel only its own left side is crossed on the way to the first black pixel
crossed_at_start : (b : Image) (x y : ℕ) (l : GridEdge) → IsFirstBlack b x y → is_edge b l ≡ true → is_crossed x y l ≡ same_line (upright x y) l
crossed_at_start b x y (level a c) first edge = refl
crossed_at_start b x y (upright a c) first edge =
    elim (cases_lt a x) [
      | inl left ↦ elim (cases_eq c y) [
        | inl row ↦
            let west : south_west b a (suc c) ≡ false = white_left b x y a c first (inr (row, omega arith)) in
            let white : is_edge b (upright a c) ≡ false = ap (λ p. differ p (b a c)) west ∙ white_before b x y a c first (inr (row, left)) in
            absurd (false≢true (sym white ∙ edge))
        | inr elsewhere ↦ grind (arith, nat_tests)
      ]
      | inr right ↦ grind (arith, nat_tests)
    ]

pub odd_from_some : (o : Bool) → 1 ≤ cond o 1 0 → o ≡ true
odd_from_some true h = refl
odd_from_some false h = absurd (omega arith)

first_passes : (x y : ℕ) (e : Edge) (es : List Edge) → e ≡ first_edge x y → 1 ≤ count_by (λ d. same_line (upright x y) (line_of d)) (e ∷ es)
first_passes x y e es at =
    let f : Edge → Bool = λ d. same_line (upright x y) (line_of d) in
    let passes : f e ≡ true = ap f at ∙ and_from (nat_eq x x) (nat_eq y y) (eq-eqb x x refl) (eq-eqb y y refl) in
    let parts : count_by f (e ∷ es) ≡ 1 + count_by f es = sum_by-cons (λ d. cond (f d) 1 0) e es ∙ ap (λ t. cond t 1 0 + count_by f es) passes in
    rw parts (omega arith)

some_at_start : (f : Edge → Edge) (x y : ℕ) (es : List Edge) → 1 ≤ length es → IsTrail f (first_edge x y) es (first_edge x y) → 1 ≤ count_by (λ d. same_line (upright x y) (line_of d)) es
some_at_start f x y [] some run = absurd (omega arith)
some_at_start f x y (e ∷ es) some run = first_passes x y e es run.0

pub inside_start : (b : Image) (policy : Policy) (sign : Sign) (x y : ℕ) (es : List Edge) → IsFirstBlack b x y → IsCircuit b policy sign (first_edge x y) es → inside_edges es x y ≡ true
inside_start b policy sign x y es first c =
    let agree : inside_edges es x y ≡ odd_by (λ e. same_line (upright x y) (line_of e)) es =
    odd_by-agree (λ e. is_crossed x y (line_of e)) (λ e. same_line (upright x y) (line_of e)) es
    (λ k d short. crossed_at_start b x y (line_of (get_or es k d)) first (is_edge-line_of b (get_or es k d) (all_boundary b policy sign (first_edge x y) es c k d short))) in
    let once = count_by-line b policy sign (first_edge x y) es c (upright x y) in
    let some = some_at_start (next b policy sign) x y es c.some c.closes in
    agree ∙ odd_from_some (odd_by (λ e. same_line (upright x y) (line_of e)) es) (omega arith)
