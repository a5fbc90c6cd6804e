-- The cone around a way that leaves the square within 1 of the start holds exactly the half-lines
-- that come near its end.
use Rattle.std.proofs.Common.{◌≡◌, ℕ, zero, suc, ◌+◌, ◌≤◌, ◌⊎◌, inl, inr, ◌↔◌, ℤ, pos, negsuc, ◌+ℤ◌, ◌-ℤ◌, ◌*ℤ◌, neg_ℤ, ◌≤ℤ◌, ◌<ℤ◌, unsigned_abs, refl, subst, ap, arith}
use Rattle.std.proofs.lemmas.Int.{ints}
use Rattle.std.proofs.lemmas.Bool.{cases_lt}
use Rattle.path_cones.specs.Straight.{StaysWithin, IsNear}
use Rattle.path_cones.specs.Cones.{cross_of}
use Rattle.path_cones.specs.Inner.Cones.{nowhere, low_of, high_of, IsBetween, IsSmall}
use Rattle.path_cones.specs.declared.vector.Vector.{Vector}
use Rattle.path_cones.proofs.Around.{IsSigned, IsCorners, corners, far_out, left_of_low}
use Rattle.path_cones.proofs.Signs.{product_at_least, product_of_low, factor_at_least}
use Rattle.pt_core.proofs.Terms.{same_value}
use Rattle.pt_core.proofs.Terms.Term.{num, plus, less, times, opposite}
use Rattle.path_cones.proofs.Turning.{cross_term}

-- ---- from near to between

pub small_multiple : (q : ℕ) (x : ℤ) → 1 ≤ q → StaysWithin q (pos q *ℤ x) → unsigned_abs x ≤ 1
small_multiple q (pos zero) h w = omega arith
small_multiple q (pos (suc zero)) h w = omega arith
small_multiple q (pos (suc (suc n))) h w = absurd (omega (arith, ints))
small_multiple q (negsuc zero) h w = omega arith
small_multiple q (negsuc (suc n)) h w = absurd (omega (arith, ints))

pub no_part : (q : ℕ) (x e : ℤ) → StaysWithin q (pos q *ℤ x -ℤ pos 0 *ℤ e) → StaysWithin q (pos q *ℤ x)
no_part q x e w = record { low = omega (arith, ints); high = omega (arith, ints) }

no_way : (p q : ℕ) (x e : ℤ) → e ≡ pos 0 → StaysWithin q (pos q *ℤ x -ℤ pos p *ℤ e) → StaysWithin q (pos q *ℤ x)
no_way p q x e is w =
    let P : ℤ → Type 0 = λ z. StaysWithin q (pos q *ℤ x -ℤ pos p *ℤ z) in
    let v = subst P is w in
    record { low = omega (arith, ints); high = omega (arith, ints) }

some_part : (p q : ℕ) (d e : Vector) → ¬ IsSmall d → 1 ≤ q
    → StaysWithin q (pos q *ℤ d.x -ℤ pos p *ℤ e.x) → StaysWithin q (pos q *ℤ d.y -ℤ pos p *ℤ e.y) → 1 ≤ p
some_part zero q d e far h wx wy = absurd (far (record {
  x = small_multiple q d.x h (no_part q d.x e.x wx);
  y = small_multiple q d.y h (no_part q d.y e.y wy);
}))
some_part (suc p) q d e far h wx wy = omega arith

goes_somewhere : (p q : ℕ) (d e : Vector) → ¬ IsSmall d → 1 ≤ q
    → StaysWithin q (pos q *ℤ d.x -ℤ pos p *ℤ e.x) → StaysWithin q (pos q *ℤ d.y -ℤ pos p *ℤ e.y) → ¬ (e ≡ nowhere)
goes_somewhere p q d e far h wx wy is = far (record {
  x = small_multiple q d.x h (no_way p q d.x e.x (ap (λ (o : Vector). o.x) is) wx);
  y = small_multiple q d.y h (no_way p q d.y e.y (ap (λ (o : Vector). o.y) is) wy);
})

signed_product : (a z w : ℤ) (q : ℕ) → IsSigned a z → StaysWithin q w → pos 0 ≤ℤ (z *ℤ (pos q *ℤ a +ℤ w))
signed_product a z w q signed within = elim signed [
  | inl h ↦
      let e = h.0 in
      product_at_least z (pos q *ℤ a +ℤ w) h.1 (rw e (omega (arith, ints)))
  | inr h ↦
      let e = h.0 in
      product_of_low z (pos q *ℤ a +ℤ w) h.1 (rw e (omega (arith, ints)))
]

low_sum : (p q x y a b ex ey : ℤ)
    → (y +ℤ b) *ℤ (q *ℤ a +ℤ (q *ℤ x -ℤ p *ℤ ex)) +ℤ neg_ℤ (x +ℤ a) *ℤ (q *ℤ b +ℤ (q *ℤ y -ℤ p *ℤ ey))
    ≡ ((x +ℤ a) *ℤ ey -ℤ (y +ℤ b) *ℤ ex) *ℤ p
low_sum p q x y a b ex ey = same_value
    (plus (times (plus (num y) (num b)) (plus (times (num q) (num a)) (less (times (num q) (num x)) (times (num p) (num ex)))))
    (times (opposite (plus (num x) (num a))) (plus (times (num q) (num b)) (less (times (num q) (num y)) (times (num p) (num ey))))))
    (times (less (times (plus (num x) (num a)) (num ey)) (times (plus (num y) (num b)) (num ex))) (num p))
    (omega arith)

high_sum : (p q x y c d ex ey : ℤ)
    → (x +ℤ c) *ℤ (q *ℤ d +ℤ (q *ℤ y -ℤ p *ℤ ey)) +ℤ neg_ℤ (y +ℤ d) *ℤ (q *ℤ c +ℤ (q *ℤ x -ℤ p *ℤ ex))
    ≡ (ex *ℤ (y +ℤ d) -ℤ ey *ℤ (x +ℤ c)) *ℤ p
high_sum p q x y c d ex ey = same_value
    (plus (times (plus (num x) (num c)) (plus (times (num q) (num d)) (less (times (num q) (num y)) (times (num p) (num ey)))))
    (times (opposite (plus (num y) (num d))) (plus (times (num q) (num c)) (less (times (num q) (num x)) (times (num p) (num ex))))))
    (times (less (times (num ex) (plus (num y) (num d))) (times (num ey) (plus (num x) (num c)))) (num p))
    (omega arith)

-- a sum of two numbers that aren't negative is a multiple of p
from_sum : (s t r : ℤ) (p : ℕ) → s +ℤ t ≡ r *ℤ pos p → pos 0 ≤ℤ s → pos 0 ≤ℤ t → 1 ≤ p → pos 0 ≤ℤ r
from_sum s t r p is hs ht hp =
    let P : ℤ → Type 0 = λ z. pos 0 ≤ℤ z in
    let sum : pos 0 ≤ℤ (s +ℤ t) = omega (arith, ints) in
    factor_at_least r (pos p) (subst P is sum) (omega (arith, ints))

between_of_near : (way e : Vector) (a b c d : ℤ) → ¬ IsSmall way → IsCorners way.x way.y a b c d → IsNear way e
    → IsBetween (record { x = way.x +ℤ a; y = way.y +ℤ b }) (record { x = way.x +ℤ c; y = way.y +ℤ d }) e
between_of_near way e a b c d far k near =
    let p = near.p in
    let q = near.q in
    let some : 1 ≤ p = some_part p q way e far near.positive near.in_x near.in_y in
    record {
      goes = goes_somewhere p q way e far near.positive near.in_x near.in_y;
      after_low = from_sum _ _ _ p (low_sum (pos p) (pos q) way.x way.y a b e.x e.y)
          (signed_product a (way.y +ℤ b) _ q k.a_is near.in_x) (signed_product b (neg_ℤ (way.x +ℤ a)) _ q k.b_is near.in_y) some;
      before_high = from_sum _ _ _ p (high_sum (pos p) (pos q) way.x way.y c d e.x e.y)
          (signed_product d (way.x +ℤ c) _ q k.d_is near.in_y) (signed_product c (neg_ℤ (way.y +ℤ d)) _ q k.c_is near.in_x) some;
    }

-- ---- from between to near

span_x : (l h e : Vector) → cross_of l h *ℤ e.x ≡ cross_of e h *ℤ l.x +ℤ cross_of l e *ℤ h.x
span_x l h e = same_value (times (cross_term l h) (num e.x))
    (plus (times (cross_term e h) (num l.x)) (times (cross_term l e) (num h.x))) (omega arith)

span_y : (l h e : Vector) → cross_of l h *ℤ e.y ≡ cross_of e h *ℤ l.y +ℤ cross_of l e *ℤ h.y
span_y l h e = same_value (times (cross_term l h) (num e.y))
    (plus (times (cross_term e h) (num l.y)) (times (cross_term l e) (num h.y))) (omega arith)

-- a step of one
abbrev IsUnit : ℤ → Type 0
IsUnit a = (a ≡ pos 1) ⊎ (a ≡ negsuc 0)

unit_of : (a z : ℤ) → IsSigned a z → IsUnit a
unit_of a z s = elim s [ inl h ↦ inl h.0 | inr h ↦ inr h.0 ]

shared : (p q x a : ℤ) → p *ℤ (x +ℤ a) ≡ p *ℤ x +ℤ p *ℤ a
shared p q x a = same_value (times (num p) (plus (num x) (num a))) (plus (times (num p) (num x)) (times (num p) (num a))) (omega arith)

unit_within : (α : ℕ) (a : ℤ) → IsUnit a → StaysWithin α (pos α *ℤ a)
unit_within α a u = elim u [
  | inl h ↦ rw h (record { low = omega (arith, ints); high = omega (arith, ints) })
  | inr h ↦ rw h (record { low = omega (arith, ints); high = omega (arith, ints) })
]

near_coordinate : (α β κ : ℕ) (x a c e : ℤ) → IsUnit a → IsUnit c
    → pos κ *ℤ e ≡ pos α *ℤ (x +ℤ a) +ℤ pos β *ℤ (x +ℤ c)
    → StaysWithin (α + β) (pos (α + β) *ℤ x -ℤ pos κ *ℤ e)
near_coordinate α β κ x a c e ua uc is =
    let s1 = shared (pos α) (pos α) x a in
    let s2 = shared (pos β) (pos β) x c in
    let w1 = unit_within α a ua in
    let w2 = unit_within β c uc in
    let sum : pos (α + β) *ℤ x -ℤ pos κ *ℤ e ≡ neg_ℤ (pos α *ℤ a +ℤ pos β *ℤ c) = omega (arith, ints) in
    rw sum (record { low = omega (arith, ints); high = omega (arith, ints) })

no_product : (κ : ℕ) (e : ℤ) → 1 ≤ κ → pos κ *ℤ e ≡ pos 0 → e ≡ pos 0
no_product zero e h is = absurd (omega arith)
no_product (suc κ) (pos zero) h is = refl
no_product (suc κ) (pos (suc n)) h is = absurd (omega (arith, ints))
no_product (suc κ) (negsuc n) h is = absurd (omega (arith, ints))

nothing : (α β : ℕ) (s x y : ℤ) → α + β ≡ 0 → s ≡ pos α *ℤ x +ℤ pos β *ℤ y → s ≡ pos 0
nothing zero zero s x y h is = omega (arith, ints)
nothing zero (suc β) s x y h is = absurd (omega arith)
nothing (suc α) β s x y h is = absurd (omega arith)

both_zero : (e : Vector) → e.x ≡ pos 0 → e.y ≡ pos 0 → e ≡ nowhere
both_zero e f g = let P : ◌≡◌ {A = Vector} (record { x = e.x; y = e.y }) nowhere = cc in P

near_by_parts : (way l h e : Vector) (a b c d : ℤ) (α β κ : ℕ)
    → IsUnit a → IsUnit b → IsUnit c → IsUnit d → ¬ (e ≡ nowhere) → 1 ≤ κ
    → pos κ *ℤ e.x ≡ pos α *ℤ (way.x +ℤ a) +ℤ pos β *ℤ (way.x +ℤ c)
    → pos κ *ℤ e.y ≡ pos α *ℤ (way.y +ℤ b) +ℤ pos β *ℤ (way.y +ℤ d)
    → IsNear way e
near_by_parts way l h e a b c d α β κ ua ub uc ud goes some is_x is_y = elim (cases_lt 0 (α + β)) [
  | inl more ↦ record {
    p = κ;
    q = α + β;
    positive = more;
    in_x = near_coordinate α β κ way.x a c e.x ua uc is_x;
    in_y = near_coordinate α β κ way.y b d e.y ub ud is_y;
  }
  | inr none ↦
      let z : α + β ≡ 0 = omega arith in
      absurd (goes (both_zero e
      (no_product κ e.x some (nothing α β _ _ _ z is_x))
      (no_product κ e.y some (nothing α β _ _ _ z is_y))))
]

-- a number that isn't negative, as a natural number
pub natural : (z : ℤ) → pos 0 ≤ℤ z → (n : ℕ) × (z ≡ pos n)
natural (pos n) h = (n, refl)
natural (negsuc n) h = absurd (omega (arith, ints))

parts_of : (κ α β : ℤ) (k m n : ℕ) (e l h : ℤ) → κ ≡ pos k → α ≡ pos m → β ≡ pos n
    → κ *ℤ e ≡ α *ℤ l +ℤ β *ℤ h → pos k *ℤ e ≡ pos m *ℤ l +ℤ pos n *ℤ h
parts_of κ α β k m n e l h f g i is = rw (← f, ← g, ← i) is

near_of_between : (way e : Vector) (a b c d : ℤ) → IsCorners way.x way.y a b c d
    → pos 0 <ℤ cross_of (record { x = way.x +ℤ a; y = way.y +ℤ b }) (record { x = way.x +ℤ c; y = way.y +ℤ d })
    → IsBetween (record { x = way.x +ℤ a; y = way.y +ℤ b }) (record { x = way.x +ℤ c; y = way.y +ℤ d }) e
    → IsNear way e
near_of_between way e a b c d k left held =
    let l : Vector = record { x = way.x +ℤ a; y = way.y +ℤ b } in
    let h : Vector = record { x = way.x +ℤ c; y = way.y +ℤ d } in
    let α = natural (cross_of e h) held.before_high in
    let β = natural (cross_of l e) held.after_low in
    let κ = natural (cross_of l h) (omega (arith, ints)) in
    let some : 1 ≤ κ.0 = omega (arith, ints, κ.1) in
    near_by_parts way l h e a b c d α.0 β.0 κ.0
    (unit_of a _ k.a_is) (unit_of b _ k.b_is) (unit_of c _ k.c_is) (unit_of d _ k.d_is)
    held.goes some
    (parts_of _ _ _ κ.0 α.0 β.0 _ _ _ κ.1 α.1 β.1 (span_x l h e))
    (parts_of _ _ _ κ.0 α.0 β.0 _ _ _ κ.1 α.1 β.1 (span_y l h e))

pub cone_is_near : (way e : Vector) → ¬ IsSmall way → IsBetween (low_of way) (high_of way) e ↔ IsNear way e
cone_is_near way e far =
    let k = corners way.x way.y (far_out way far) in
    (near_of_between way e _ _ _ _ k (left_of_low way far), between_of_near way e _ _ _ _ far k)

-- a way within 1 of the start is near every half-line: the start of each
pub small_is_near : (way e : Vector) → IsSmall way → IsNear way e
small_is_near way e small = record {
  p = 0;
  q = 1;
  positive = omega arith;
  in_x = record { low = omega (arith, ints); high = omega (arith, ints) };
  in_y = record { low = omega (arith, ints); high = omega (arith, ints) };
}
