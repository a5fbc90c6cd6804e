-- A walk once round: what all that follows knows of the edges of a path.
use Rattle.std.proofs.Common.{◌≡◌, ◌≢◌, ℕ, zero, suc, ◌<◌, ◌≤◌, false, List, [], ◌∷◌, length, AllPairs, All, get_or, refl, ap, sym, subst, ◌∙◌, arith}
use Rattle.std.proofs.lemmas.List.Elements.{All-nil, All-cons}
use Rattle.pt_core.specs.declared.path.Sign.{Sign}
use Rattle.pt_core.specs.declared.policy.Policy.{Policy}
use Rattle.bit_image.specs.Image.{Image, south_west}
use Rattle.bit_image.specs.FirstBlack.{IsFirstBlack}
use Rattle.turn_policies.specs.declared.edge.Edge.{Edge}
use Rattle.turn_policies.specs.Boundary.{IsBoundary}
use Rattle.turn_policies.specs.Turn.{next}
use Rattle.path_decompose.specs.Walk.{IsTrail, IsRoundTrip, first_edge}
use Rattle.path_decompose.proofs.Orbit.{orbit, run-orbit, get_or-orbit}
use Rattle.turn_policies.proofs.TurnedEdges.{next_boundary}

-- the edges go once round in the image, from a boundary edge
pub record IsCircuit (b : Image) (policy : Policy) (sign : Sign) (s : Edge) (es : List Edge) : Type 0 where
  pub boundary : IsBoundary b s
  pub some : 1 ≤ length es
  pub closes : IsTrail (next b policy sign) s es s
  pub distinct : AllPairs (λ d e. d ≢ e) es

first_right : (b : Image) (x y : ℕ) → ((u : ℕ) → u < x → b u y ≡ false) → south_west b x (suc y) ≡ false
first_right b zero y left = refl
first_right b (suc x) y left = left x (omega arith)

-- the left side of the first black pixel is a boundary edge
pub first_boundary : (b : Image) (x y : ℕ) → IsFirstBlack b x y → IsBoundary b (first_edge x y)
first_boundary b x y first = record { black_left = first.black; white_right = first_right b x y first.left }

-- so a round of the definitions is one of the lemmas
pub circuit_of : (b : Image) (policy : Policy) (sign : Sign) (x y : ℕ) (es : List Edge) → IsFirstBlack b x y → IsRoundTrip b policy sign x y es → IsCircuit b policy sign (first_edge x y) es
circuit_of b policy sign x y es first round =
    record { boundary = first_boundary b x y first; some = round.some; closes = round.closes; distinct = round.distinct }

pub run_boundary : (b : Image) (policy : Policy) (sign : Sign) (es : List Edge) (s z : Edge) → IsBoundary b s → IsTrail (next b policy sign) s es z → All (IsBoundary b) es
run_boundary b policy sign [] s z h run = All-nil _
run_boundary b policy sign (e ∷ es) s z h run =
    let he : IsBoundary b e = subst (IsBoundary b) (sym run.0) h in
    All-cons (IsBoundary b) e es he (run_boundary b policy sign es (next b policy sign e) z (next_boundary b policy sign e he) run.1)

pub all_boundary : (b : Image) (policy : Policy) (sign : Sign) (s : Edge) (es : List Edge) → IsCircuit b policy sign s es → All (IsBoundary b) es
all_boundary b policy sign s es c = run_boundary b policy sign es s s c.boundary c.closes

-- two rounds from one edge are one
short_of_other : (f : Edge → Edge) (s : Edge) (es ds : List Edge) → 1 ≤ length es → IsTrail f s es s → IsTrail f s ds s → AllPairs (λ d e. d ≢ e) ds → length es < length ds → ⊥
short_of_other f s es ds some run other distinct shorter =
    let at_start : get_or ds 0 s ≡ s = ap (λ l. get_or l 0 s) ((run-orbit f ds s s other).0) ∙ get_or-orbit f (length ds) 0 s s (omega arith) in
    let at_end : get_or ds (length es) s ≡ s =
    ap (λ l. get_or l (length es) s) ((run-orbit f ds s s other).0) ∙ get_or-orbit f (length ds) (length es) s s shorter ∙ (run-orbit f es s s run).1 in
    distinct 0 (length es) s some shorter (at_start ∙ sym at_end)

pub one_circuit : (b : Image) (policy : Policy) (sign : Sign) (s : Edge) (es ds : List Edge) → IsCircuit b policy sign s es → IsCircuit b policy sign s ds → es ≡ ds
one_circuit b policy sign s es ds c d =
    let f : Edge → Edge = next b policy sign in
    let not_shorter : length es < length ds → ⊥ = short_of_other f s es ds c.some c.closes d.closes d.distinct in
    let not_longer : length ds < length es → ⊥ = short_of_other f s ds es d.some d.closes c.closes c.distinct in
    let same : length es ≡ length ds = omega arith in
    (run-orbit f es s s c.closes).0 ∙ ap (λ n. orbit f n s) same ∙ sym ((run-orbit f ds s s d.closes).0)
