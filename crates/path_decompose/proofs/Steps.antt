-- The walk step by step: as long as its first edge hasn't come again, no edge has come twice, and there are only so many.
use Rattle.std.proofs.Common.{◌≡◌, ◌≢◌, ℕ, suc, ◌*◌, ◌<◌, ◌++◌, List, [], ◌∷◌, map, AllPairs, All, ap, sym, subst, ◌∙◌, inl, inr, arith}
use Rattle.std.proofs.lemmas.Bool.{cases_order}
use Rattle.std.proofs.lemmas.List.{map-append}
use Rattle.pt_core.specs.declared.point.Point.{Point}
use Rattle.pt_core.specs.declared.path.Sign.{Sign}
use Rattle.pt_core.specs.declared.policy.Policy.{Policy}
use Rattle.bit_image.specs.Image.{Image, Fits}
use Rattle.bit_image.specs.FirstBlack.{IsFirstBlack}
use Rattle.turn_policies.specs.declared.edge.Edge.{Edge}
use Rattle.turn_policies.specs.Boundary.{IsBoundary}
use Rattle.turn_policies.specs.Turn.{next}
use Rattle.turn_policies.proofs.TurnedEdges.{next_boundary}
use Rattle.turn_policies.proofs.Back.{previous, previous-next}
use Rattle.path_decompose.specs.Walk.{IsRoundTrip, IsBoundaryWalk, first_edge, start_of}
use Rattle.path_decompose.proofs.Orbit.{nth_after, orbit, NoReturn, nth_after-keeps, length-orbit, orbit_push, orbit_run, get_or-orbit, distinct_orbit}
use Rattle.path_decompose.proofs.Round.{first_boundary}
use Rattle.path_decompose.proofs.OnPage.{length-distinct}

-- After n steps from s the walk is at an edge, it has passed these points, and s hasn't come again.
pub record IsPartWalk (f : Edge → Edge) (s : Edge) (n : ℕ) (points : List Point) (here : Edge) : Type 0 where
  pub passed : points ≡ map start_of (orbit f n s)
  pub at : here ≡ nth_after f n s
  pub no_return : NoReturn f n s

pub points_push : (f : Edge → Edge) (s : Edge) (n : ℕ) (points : List Point) (here : Edge) → points ≡ map start_of (orbit f n s) → here ≡ nth_after f n s → points ++ start_of here ∷ [] ≡ map start_of (orbit f (suc n) s)
points_push f s n points here passed at =
    ap (λ ps. ps ++ start_of here ∷ []) passed
    ∙ ap (λ e. map start_of (orbit f n s) ++ start_of e ∷ []) at
    ∙ sym (map-append start_of (orbit f n s) (nth_after f n s ∷ []))
    ∙ ap (map start_of) (sym (orbit_push f n s))

pub no_return_more : (f : Edge → Edge) (s : Edge) (n : ℕ) → NoReturn f n s → nth_after f (suc n) s ≢ s → NoReturn f (suc n) s
no_return_more f s n before here k below e =
    elim (cases_order k n) [
      | inl same ↦ here (ap (λ m. f (nth_after f m s)) (sym same) ∙ e)
      | inr (inl earlier) ↦ before k earlier e
      | inr (inr later) ↦ absurd (omega arith)
    ]

pub part_more : (f : Edge → Edge) (s : Edge) (n : ℕ) (points : List Point) (here : Edge) → IsPartWalk f s n points here → f here ≢ s
    → IsPartWalk f s (suc n) (points ++ start_of here ∷ []) (f here)
part_more f s n points here p other =
    record {
      passed = points_push f s n points here p.passed p.at;
      at = ap f p.at;
      no_return = no_return_more f s n p.no_return (λ e. other (ap f p.at ∙ e));
    }

-- the edges passed so far, and this one, are different
part_distinct : (b : Image) (policy : Policy) (sign : Sign) (s : Edge) (n : ℕ) → IsBoundary b s → NoReturn (next b policy sign) n s → AllPairs (λ d e. d ≢ e) (orbit (next b policy sign) (suc n) s)
part_distinct b policy sign s n h no_return =
    distinct_orbit (next b policy sign) (previous b policy sign) (IsBoundary b) (next_boundary b policy sign) (previous-next b policy sign) n s h no_return

-- so the walk has not yet passed as many edges as the page can have
pub part_short : (b : Image) (policy : Policy) (sign : Sign) (x y n : ℕ) (points : List Point) (here : Edge) (width height : ℕ) → IsFirstBlack b x y → Fits b width height → IsPartWalk (next b policy sign) (first_edge x y) n points here → n < suc width * suc height * 2
part_short b policy sign x y n points here width height first fits p =
    let f : Edge → Edge = next b policy sign in
    let s : Edge = first_edge x y in
    let boundary : IsBoundary b s = first_boundary b x y first in
    let all : All (IsBoundary b) (orbit f (suc n) s) =
    λ k d short.
    let below : k < suc n = omega (arith, length-orbit f (suc n) s) in
    subst (IsBoundary b) (sym (get_or-orbit f (suc n) k s d below)) (nth_after-keeps f (IsBoundary b) (next_boundary b policy sign) s boundary k) in
    omega (arith, length-orbit f (suc n) s, length-distinct b width height fits (orbit f (suc n) s) all (part_distinct b policy sign s n boundary p.no_return))

-- once the first edge comes again, the walk is whole
pub part_round : (b : Image) (policy : Policy) (sign : Sign) (x y n : ℕ) → IsFirstBlack b x y → NoReturn (next b policy sign) n (first_edge x y) → nth_after (next b policy sign) (suc n) (first_edge x y) ≡ first_edge x y
    → IsRoundTrip b policy sign x y (orbit (next b policy sign) (suc n) (first_edge x y))
part_round b policy sign x y n first no_return closed =
    let f : Edge → Edge = next b policy sign in
    let s : Edge = first_edge x y in
    record {
      some = omega (arith, length-orbit f (suc n) s);
      closes = orbit_run f (suc n) s s closed;
      distinct = part_distinct b policy sign s n (first_boundary b x y first) no_return;
    }

pub part_closed : (b : Image) (policy : Policy) (sign : Sign) (x y n : ℕ) (points : List Point) (here : Edge) → IsFirstBlack b x y → IsPartWalk (next b policy sign) (first_edge x y) n points here → next b policy sign here ≡ first_edge x y
    → IsBoundaryWalk b policy sign x y (points ++ start_of here ∷ [])
part_closed b policy sign x y n points here first p closed =
    let f : Edge → Edge = next b policy sign in
    record {
      edges = orbit f (suc n) (first_edge x y);
      round = part_round b policy sign x y n first p.no_return (sym (ap f p.at) ∙ closed);
      starts = points_push f (first_edge x y) n points here p.passed p.at;
    }
