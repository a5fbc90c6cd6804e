-- The next corner, from one point earlier; a closed walk has one.
use Rattle.std.proofs.Common.{◌≡◌, ◌≢◌, ◌↔◌, inl, inr, ℕ, zero, suc, ◌+◌, ◌-◌, ◌<◌, ◌≤◌, ℤ, pos, negsuc, ◌+ℤ◌, ◌-ℤ◌, ◌*ℤ◌, List, length, refl, sym, ◌∙◌, ap, subst, arith}
use Rattle.std.proofs.lemmas.Int.{ints}
use Rattle.std.proofs.lemmas.Bool.{cases_lt}
use Rattle.pt_core.specs.ClosedWalk.{point_at, IsClosedWalk, IsUnitStep}
use Rattle.pt_core.specs.declared.point.Point.{Point}
use Rattle.path_cones.specs.Straight.{vector_of}
use Rattle.path_cones.specs.Corners.{step_from, IsNextCorner}
use Rattle.path_cones.specs.Inner.Corners.{GoesStraight}
use Rattle.path_cones.specs.Inner.Tails.{IsAtPlace}
use Rattle.path_cones.specs.declared.vector.Vector.{Vector}
use Rattle.path_cones.proofs.Cyclic.{lap_on}
use Rattle.path_cones.proofs.Running.{along_x, along_y}

-- no turn between two points
abbrev pub IsStraightOn : List Point → ℕ → ℕ → Type 0
IsStraightOn points i d = (e : ℕ) → 1 ≤ e → e < d → step_from (point_at points) (i + (e - 1)) ≡ step_from (point_at points) (i + e)

pub straight_run : (points : List Point) (i d : ℕ) → IsStraightOn points i d → GoesStraight (point_at points) i d
straight_run points i d on zero h =
    let e : i + 0 ≡ i = omega arith in
    ap (step_from (point_at points)) e
straight_run points i d on (suc t) h =
    let e : i + (suc t - 1) ≡ i + t = omega arith in
    sym (on (suc t) (omega arith) h) ∙ ap (step_from (point_at points)) e ∙ straight_run points i d on t (omega arith)

-- ---- a closed walk turns

no_multiple : (n : ℕ) (a u : ℤ) → 1 ≤ n → a ≡ a +ℤ pos n *ℤ u → u ≡ pos 0
no_multiple (suc n) a (pos zero) h is = refl
no_multiple (suc n) a (pos (suc u)) h is = absurd (omega (arith, ints))
no_multiple (suc n) a (negsuc u) h is = absurd (omega (arith, ints))
no_multiple zero a u h is = absurd (omega arith)

moves : (p q : Point) → IsUnitStep p q → q.x -ℤ p.x ≡ pos 0 → q.y -ℤ p.y ≡ pos 0 → ⊥
moves p q step x y = elim step [
  | inl h ↦ elim h.1 [ inl e ↦ omega (arith, ints) | inr e ↦ omega (arith, ints) ]
  | inr h ↦ elim h.1 [ inl e ↦ omega (arith, ints) | inr e ↦ omega (arith, ints) ]
]

pub no_lap_straight : (points : List Point) (i d : ℕ) → IsClosedWalk points → IsStraightOn points i d → d < length points
no_lap_straight points i d closed on = elim (cases_lt d (length points)) [
  | inl h ↦ h
  | inr long ↦
      let n = length points in
      let some : 1 ≤ n = omega (arith, closed.least) in
      let run : GoesStraight (point_at points) i d = straight_run points i d on in
      let back : point_at points (i + n) ≡ point_at points i = lap_on points i in
      let fx = along_x (point_at points) i d run n long in
      let fy = along_y (point_at points) i d run n long in
      let bx = ap (λ (p : Point). p.x) back in
      let by' = ap (λ (p : Point). p.y) back in
      let zx = no_multiple n (point_at points i).x (step_from (point_at points) i).x some (sym bx ∙ fx) in
      let zy = no_multiple n (point_at points i).y (step_from (point_at points) i).y some (sym by' ∙ fy) in
      absurd (moves (point_at points i) (point_at points (suc i)) (closed.steps i) zx zy)
]

pub corner_below : (points : List Point) (i d : ℕ) → IsClosedWalk points → IsNextCorner points i d → d < length points
corner_below points i d closed next = no_lap_straight points i d closed next.none_before

-- ---- from one point earlier

module _ (points : List Point) (i : ℕ) where
  pub corner_here : step_from (point_at points) i ≢ step_from (point_at points) (i + 1) → IsNextCorner points i 1
  corner_here turn =
      let e : i + (1 - 1) ≡ i = omega arith in
      record {
        some = omega arith;
        turns = λ same. turn (ap (step_from (point_at points)) (sym e) ∙ same);
        none_before = λ f a b. absurd (omega arith);
      }

  module _ (d : ℕ) (later : IsNextCorner points (i + 1) d) (same : step_from (point_at points) i ≡ step_from (point_at points) (i + 1)) where
    on_earlier : (e : ℕ) → 1 ≤ e → e < d + 1 → step_from (point_at points) (i + (e - 1)) ≡ step_from (point_at points) (i + e)
    on_earlier zero a b = absurd (omega arith)
    on_earlier (suc zero) a b =
        let f : i + (1 - 1) ≡ i = omega arith in
        ap (step_from (point_at points)) f ∙ same
    on_earlier (suc (suc e)) a b =
        let f : i + (suc (suc e) - 1) ≡ i + 1 + (suc e - 1) = omega arith in
        let g : i + 1 + suc e ≡ i + suc (suc e) = omega arith in
        ap (step_from (point_at points)) f ∙ later.none_before (suc e) (omega arith) (omega arith) ∙ ap (step_from (point_at points)) g

    pub corner_later : IsNextCorner points i (d + 1)
    corner_later =
        let some = later.some in
        let f : i + 1 + (d - 1) ≡ i + (d + 1 - 1) = omega arith in
        let g : i + (d + 1) ≡ i + 1 + d = omega arith in
        record {
          some = omega arith;
          turns = λ is. later.turns (ap (step_from (point_at points)) f ∙ is ∙ ap (step_from (point_at points)) g);
          none_before = on_earlier;
        }

step_lap_on : (points : List Point) (k : ℕ) → step_from (point_at points) (k + length points) ≡ step_from (point_at points) k
step_lap_on points k =
    let f = lap_on points k in
    let g = lap_on points (suc k) in
    let e : suc (k + length points) ≡ suc k + length points = omega arith in
    let P : Point → Point → Type 0 = λ p q. vector_of (point_at points (k + length points)) (point_at points (suc (k + length points))) ≡ vector_of p q in
    subst (λ (p : Point). P p (point_at points (suc k))) f
    (subst (λ (q : Point). P (point_at points (k + length points)) q) (ap (point_at points) e ∙ g) refl)

-- one lap on, the next corner is as far
pub corner_lap_on : (points : List Point) (i d : ℕ) → IsNextCorner points i d → IsNextCorner points (i + length points) d
corner_lap_on points i d next =
    let n = length points in
    let move : (e : ℕ) → step_from (point_at points) (i + n + e) ≡ step_from (point_at points) (i + e) =
    λ e. let f : i + n + e ≡ i + e + n = omega arith in ap (step_from (point_at points)) f ∙ step_lap_on points (i + e) in
    record {
      some = next.some;
      turns = λ is. next.turns (sym (move (d - 1)) ∙ is ∙ move d);
      none_before = λ e a b. move (e - 1) ∙ next.none_before e a b ∙ sym (move e);
    }

-- ---- the two steps that the code compares

as_step : (points : List Point) (k : ℕ) → vector_of (point_at points k) (point_at points (k + 1)) ≡ step_from (point_at points) k
as_step points k = let e : k + 1 ≡ suc k = omega arith in ap (λ m. vector_of (point_at points k) (point_at points m)) e

module _ (points : List Point) (i j : ℕ) (step next : Vector)
    (step_is : step ≡ vector_of (point_at points i) (point_at points (i + 1)))
    (next_is : next ≡ vector_of (point_at points j) (point_at points (j + 1))) where
  pub same_steps : step ≡ next → step_from (point_at points) i ≡ step_from (point_at points) j
  same_steps is = sym (as_step points i) ∙ sym step_is ∙ is ∙ next_is ∙ as_step points j

  pub steps_as : step_from (point_at points) i ≡ step_from (point_at points) j → step ≡ next
  steps_as is = step_is ∙ as_step points i ∙ is ∙ sym (as_step points j) ∙ sym next_is

  pub other_steps : step ≢ next → step_from (point_at points) i ≢ step_from (point_at points) j
  other_steps not is = not (step_is ∙ as_step points i ∙ is ∙ sym (as_step points j) ∙ sym next_is)

-- ---- from the first point on

pub on_more : (points : List Point) (d : ℕ) → IsStraightOn points 0 d → step_from (point_at points) (d - 1) ≡ step_from (point_at points) d
    → IsStraightOn points 0 (d + 1)
on_more points d on is e a b = elim (cases_lt e d) [
  | inl before ↦ on e a before
  | inr last ↦
      let same : d ≡ e = omega arith in
      let f : 0 + (d - 1) ≡ d - 1 = omega arith in
      let g : d ≡ 0 + d = omega arith in
      let P : ℕ → Type 0 = λ n. step_from (point_at points) (0 + (n - 1)) ≡ step_from (point_at points) (0 + n) in
      subst P same (ap (step_from (point_at points)) f ∙ is ∙ ap (step_from (point_at points)) g)
]

pub first_found : (points : List Point) (d : ℕ) → 1 ≤ d → IsStraightOn points 0 d
    → step_from (point_at points) (d - 1) ≢ step_from (point_at points) d → IsNextCorner points (length points) d
first_found points d some on turn =
    let f : d - 1 ≡ 0 + (d - 1) = omega arith in
    let g : 0 + d ≡ d = omega arith in
    let e : 0 + length points ≡ length points = omega arith in
    subst (λ (i : ℕ). IsNextCorner points i d) e (corner_lap_on points 0 d (record {
      some = some;
      turns = λ is. turn (ap (step_from (point_at points)) f ∙ is ∙ ap (step_from (point_at points)) g);
      none_before = on;
    }))

pub less_steps : (points : List Point) (i steps d : ℕ) → IsNextCorner points i d → IsNextCorner points i (steps + d - steps)
less_steps points i steps d next =
    let e : d ≡ steps + d - steps = omega arith in
    subst (IsNextCorner points i) e next
