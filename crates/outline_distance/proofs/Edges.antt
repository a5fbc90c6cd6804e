-- Near each place of a segment there is a place of the path's edges.
use Rattle.std.proofs.Common.{◌≡◌, ◌⊎◌, inl, inr, ℕ, zero, suc, ◌+◌, ◌-◌, ◌*◌, ◌<◌, ◌≤◌, ℤ, pos, negsuc, neg_ℤ, ◌+ℤ◌, ◌-ℤ◌, ◌*ℤ◌, ◌≤ℤ◌, ◌<ℤ◌, List, refl, sym, ap, ◌∙◌, subst, arith}
use Rattle.std.proofs.lemmas.Bool.{cases_lt}
use Rattle.std.proofs.lemmas.Int.{ints}
use Rattle.std.proofs.lemmas.Nat.{mul-le}
use Rattle.std.specs.Prelude.{unsigned_abs}
use Rattle.pt_core.specs.ClosedWalk.{IsClosedWalk, point_at}
use Rattle.pt_core.specs.declared.point.Point.{Point}
use Rattle.pt_core.proofs.Terms.{same_value}
use Rattle.pt_core.proofs.Terms.Term.{num, plus, less, times, opposite}
use Rattle.straight_paths.specs.Straight.{IsPossible}
use Rattle.path_cones.proofs.Signs.{product_at_least, factor_at_least}
use Rattle.outline_distance.proofs.Levels.{compared}
use Rattle.outline_distance.proofs.Halves.{IsNearBoth, below, above, sum_at_least, not_below}
use Rattle.outline_distance.proofs.Middles.{IsUnitIn, near_turned_x, near_turned_y, unit_turned_x, unit_turned_y, up_both, either_way, both_near}
use Rattle.outline_distance.proofs.Places.{at_least}

-- ---- a step from one whole number to the next

pub record IsCrossed (f : ℕ → ℤ) (c : ℤ) (i j : ℕ) : Type 0 where
  pub at : ℕ
  pub after : i ≤ at
  pub before : at < j
  pub from : f at ≡ c
  pub to : f (suc at) ≡ c +ℤ pos 1

-- what begins at c or below and ends above goes from c to the next number somewhere
pub crossed : (f : ℕ → ℤ) (c : ℤ) → ((k : ℕ) → f (suc k) ≤ℤ (f k +ℤ pos 1)) → (d i j : ℕ) → j ≡ i + d
    → f i ≤ℤ c → (c +ℤ pos 1) ≤ℤ f j → IsCrossed f c i j
crossed f c step zero i j e low high =
    let same = ap f e in
    let here : i + 0 ≡ i = omega arith in
    let there = ap f here in
    absurd (omega (arith, ints))
crossed f c step (suc d) i j e low high =
    let one = step i in
    let later : f (suc i) ≤ℤ c → IsCrossed f c i j
    = λ h.
    let rest = crossed f c step d (suc i) j (omega arith) h high in
    let after = rest.after in
    record { at = rest.at; after = omega arith; before = rest.before; from = rest.from; to = rest.to } in
    elim (compared (f (suc i)) c) [
      | inl is ↦ later (omega (arith, ints))
      | inr other ↦ elim other [
        | inl low_still ↦ later (omega (arith, ints))
        | inr more ↦ record { at = i; after = omega arith; before = omega arith; from = omega (arith, ints); to = omega (arith, ints) }
      ]
    ]

-- ---- so many n-ths beyond a whole number

pub record IsEdgeShare (n t c r : ℕ) : Type 0 where
  pub is : t ≡ n * c + r
  pub few : r ≤ n
  pub some : (c ≡ 0) ⊎ (1 ≤ r)

pub share : (n : ℕ) → 1 ≤ n → (t : ℕ) → (c : ℕ) × (r : ℕ) × IsEdgeShare n t c r
share n some zero = (0, 0, record { is = omega arith; few = omega arith; some = inl refl })
share n some (suc t) =
    let before = share n some t in
    let c = before.0 in
    let r = before.1 in
    let is = before.2.is in
    let few = before.2.few in
    elim (cases_lt r n) [
      | inl room ↦ (c, suc r, record { is = omega arith; few = room; some = inr (omega arith) })
      | inr full ↦ (suc c, 1, record { is = omega arith; few = some; some = inr (omega arith) })
    ]

-- a share of t isn't beyond the last number before t
pub share_below : (n p t c r : ℕ) → 1 ≤ n → p ≤ n → 1 ≤ t → IsEdgeShare n (p * t) c r → c < t
share_below n p t c r some part whole is = elim is.some [
  | inl none ↦ omega arith
  | inr more ↦ elim (cases_lt c t) [
    | inl within ↦ within
    | inr over ↦
        let a = mul-le n t n c (omega arith) over in
        let b = mul-le p t n t part (omega arith) in
        let e = is.is in
        absurd (omega arith)
  ]
]

-- ---- a place of an edge, whose ends are near the half-line

cross_of_sum : (h r a b d e u v : ℤ) → a *ℤ (h *ℤ e +ℤ r *ℤ v) -ℤ b *ℤ (h *ℤ d +ℤ r *ℤ u) ≡ h *ℤ (a *ℤ e -ℤ b *ℤ d) +ℤ r *ℤ (a *ℤ v -ℤ b *ℤ u)
cross_of_sum h r a b d e u v = same_value
    (less (times (num a) (plus (times (num h) (num e)) (times (num r) (num v)))) (times (num b) (plus (times (num h) (num d)) (times (num r) (num u)))))
    (plus (times (num h) (less (times (num a) (num e)) (times (num b) (num d)))) (times (num r) (less (times (num a) (num v)) (times (num b) (num u)))))
    (omega arith)

both_less : (h r w c d : ℤ) → h *ℤ (w -ℤ c) +ℤ r *ℤ (w -ℤ d) ≡ (h +ℤ r) *ℤ w -ℤ (h *ℤ c +ℤ r *ℤ d)
both_less h r w c d = same_value
    (plus (times (num h) (less (num w) (num c))) (times (num r) (less (num w) (num d))))
    (less (times (plus (num h) (num r)) (num w)) (plus (times (num h) (num c)) (times (num r) (num d))))
    (omega arith)

both_plus : (h r w c d : ℤ) → h *ℤ (w +ℤ c) +ℤ r *ℤ (w +ℤ d) ≡ (h +ℤ r) *ℤ w +ℤ (h *ℤ c +ℤ r *ℤ d)
both_plus h r w c d = same_value
    (plus (times (num h) (plus (num w) (num c))) (times (num r) (plus (num w) (num d))))
    (plus (times (plus (num h) (num r)) (num w)) (plus (times (num h) (num c)) (times (num r) (num d))))
    (omega arith)

-- where both numbers together are p n-ths of a and b together, the cross product is a multiple of a + b
cross_there : (p a b d e : ℤ) → d +ℤ e ≡ p *ℤ (a +ℤ b) → a *ℤ e -ℤ b *ℤ d ≡ (a +ℤ b) *ℤ (p *ℤ a -ℤ d)
cross_there p a b d e is =
    let e' : e ≡ p *ℤ (a +ℤ b) -ℤ d = omega (arith, ints) in
    ap (λ v. a *ℤ v -ℤ b *ℤ d) e' ∙ same_value
    (less (times (num a) (less (times (num p) (plus (num a) (num b))) (num d))) (times (num b) (num d)))
    (times (plus (num a) (num b)) (less (times (num p) (num a)) (num d)))
    (omega arith)

less_factor : (n h z : ℤ) → n *ℤ h -ℤ h *ℤ z ≡ (n -ℤ z) *ℤ h
less_factor n h z = same_value (less (times (num n) (num h)) (times (num h) (num z))) (times (less (num n) (num z)) (num h)) (omega arith)

plus_factor : (n h z : ℤ) → n *ℤ h +ℤ h *ℤ z ≡ (n +ℤ z) *ℤ h
plus_factor n h z = same_value (plus (times (num n) (num h)) (times (num h) (num z))) (times (plus (num n) (num z)) (num h)) (omega arith)

from_sides : (n : ℕ) (z w : ℤ) → z ≡ neg_ℤ w → pos 0 ≤ℤ (pos n -ℤ z) → pos 0 ≤ℤ (pos n +ℤ z) → unsigned_abs w ≤ n
from_sides n z w e f g = omega (arith, ints)

opposite_less : (u v : ℤ) → u -ℤ v ≡ neg_ℤ (v -ℤ u)
opposite_less u v = omega (arith, ints)

module _ (n : ℕ) (h r p a b d e u v : ℤ) (some_a : pos 0 ≤ℤ a) (some_b : pos 0 ≤ℤ b) (positive : pos 0 <ℤ (a +ℤ b))
    (near : IsNearBoth a b d e) (next : IsNearBoth a b u v) (some_h : pos 0 ≤ℤ h) (some_r : pos 0 ≤ℤ r) (whole : h +ℤ r ≡ pos n)
    (is : (h *ℤ d +ℤ r *ℤ u) +ℤ (h *ℤ e +ℤ r *ℤ v) ≡ p *ℤ (a +ℤ b)) where
  crossing : h *ℤ (a *ℤ e -ℤ b *ℤ d) +ℤ r *ℤ (a *ℤ v -ℤ b *ℤ u) ≡ (a +ℤ b) *ℤ (p *ℤ a -ℤ (h *ℤ d +ℤ r *ℤ u))
  crossing = sym (cross_of_sum h r a b d e u v) ∙ cross_there p a b (h *ℤ d +ℤ r *ℤ u) (h *ℤ e +ℤ r *ℤ v) is

  high : pos 0 ≤ℤ ((pos n -ℤ (p *ℤ a -ℤ (h *ℤ d +ℤ r *ℤ u))) *ℤ (a +ℤ b))
  high = at_least _ _
      (both_less h r (a +ℤ b) (a *ℤ e -ℤ b *ℤ d) (a *ℤ v -ℤ b *ℤ u)
      ∙ ap (λ m. m *ℤ (a +ℤ b) -ℤ (h *ℤ (a *ℤ e -ℤ b *ℤ d) +ℤ r *ℤ (a *ℤ v -ℤ b *ℤ u))) whole
      ∙ ap (λ c. pos n *ℤ (a +ℤ b) -ℤ c) crossing
      ∙ less_factor (pos n) (a +ℤ b) (p *ℤ a -ℤ (h *ℤ d +ℤ r *ℤ u)))
      (sum_at_least _ _ (product_at_least h _ some_h (below a b d e some_a some_b near)) (product_at_least r _ some_r (below a b u v some_a some_b next)))

  low : pos 0 ≤ℤ ((pos n +ℤ (p *ℤ a -ℤ (h *ℤ d +ℤ r *ℤ u))) *ℤ (a +ℤ b))
  low = at_least _ _
      (both_plus h r (a +ℤ b) (a *ℤ e -ℤ b *ℤ d) (a *ℤ v -ℤ b *ℤ u)
      ∙ ap (λ m. m *ℤ (a +ℤ b) +ℤ (h *ℤ (a *ℤ e -ℤ b *ℤ d) +ℤ r *ℤ (a *ℤ v -ℤ b *ℤ u))) whole
      ∙ ap (λ c. pos n *ℤ (a +ℤ b) +ℤ c) crossing
      ∙ plus_factor (pos n) (a +ℤ b) (p *ℤ a -ℤ (h *ℤ d +ℤ r *ℤ u)))
      (sum_at_least _ _ (product_at_least h _ some_h (above a b d e some_a some_b near)) (product_at_least r _ some_r (above a b u v some_a some_b next)))

  pub near_first : unsigned_abs ((h *ℤ d +ℤ r *ℤ u) -ℤ p *ℤ a) ≤ n
  near_first = from_sides n (p *ℤ a -ℤ (h *ℤ d +ℤ r *ℤ u)) ((h *ℤ d +ℤ r *ℤ u) -ℤ p *ℤ a) (opposite_less (p *ℤ a) (h *ℤ d +ℤ r *ℤ u))
      (factor_at_least _ (a +ℤ b) high positive) (factor_at_least _ (a +ℤ b) low positive)

-- ---- two coordinates that rise from i to j

-- the place of the edge from point number `at` to the next one that divides it as `there` to `here` is near the place
-- of the way from i to j that divides that as p to n - p
pub record HasEdge (f g : ℕ → ℤ) (i j n p : ℕ) : Type 0 where
  pub at : ℕ
  pub after : i ≤ at
  pub before : at < j
  pub here : ℕ
  pub there : ℕ
  pub whole : here + there ≡ n
  pub in_x : unsigned_abs ((pos here *ℤ (f at -ℤ f i) +ℤ pos there *ℤ (f (suc at) -ℤ f i)) -ℤ pos p *ℤ (f j -ℤ f i)) ≤ n
  pub in_y : unsigned_abs ((pos here *ℤ (g at -ℤ g i) +ℤ pos there *ℤ (g (suc at) -ℤ g i)) -ℤ pos p *ℤ (g j -ℤ g i)) ≤ n

nowhere : (n p : ℕ) (z w a : ℤ) → z ≡ pos 0 → a ≡ pos 0 → unsigned_abs ((pos n *ℤ z +ℤ pos 0 *ℤ w) -ℤ pos p *ℤ a) ≤ n
nowhere n p z w a e f = rw (e, f) (omega (arith, ints))

sum_there : (h r d u e v c : ℤ) → d +ℤ e ≡ c → u +ℤ v ≡ c +ℤ pos 1 → (h *ℤ d +ℤ r *ℤ u) +ℤ (h *ℤ e +ℤ r *ℤ v) ≡ (h +ℤ r) *ℤ c +ℤ r
sum_there h r d u e v c s t =
    same_value
    (plus (plus (times (num h) (num d)) (times (num r) (num u))) (plus (times (num h) (num e)) (times (num r) (num v))))
    (plus (times (num h) (plus (num d) (num e))) (times (num r) (plus (num u) (num v))))
    (omega arith)
    ∙ ap (λ z. h *ℤ z +ℤ r *ℤ (u +ℤ v)) s ∙ ap (λ z. h *ℤ c +ℤ r *ℤ z) t
    ∙ same_value
    (plus (times (num h) (num c)) (times (num r) (plus (num c) (num (pos 1)))))
    (plus (times (plus (num h) (num r)) (num c)) (num r))
    (omega arith)

in_numbers : (n p t c r : ℕ) (h z : ℤ) → h +ℤ pos r ≡ pos n → z ≡ pos t → p * t ≡ n * c + r → (h +ℤ pos r) *ℤ pos c +ℤ pos r ≡ pos p *ℤ z
in_numbers n p t c r h z e f k = rw (e, f) (omega (arith, ints))

both_zero : (a b : ℤ) → pos 0 ≤ℤ a → pos 0 ≤ℤ b → a +ℤ b ≡ pos 0 → (a ≡ pos 0) × (b ≡ pos 0)
both_zero a b h k e = (omega (arith, ints), omega (arith, ints))

itself : (u : ℤ) → u -ℤ u ≡ pos 0
itself u = omega (arith, ints)

begins_below : (u v : ℤ) (c : ℕ) → (u +ℤ v) ≤ℤ ((u +ℤ v) +ℤ pos c)
begins_below u v c = omega (arith, ints)

ends_above : (u v u' v' : ℤ) (t c : ℕ) → (u' -ℤ u) +ℤ (v' -ℤ v) ≡ pos t → c < t → (((u +ℤ v) +ℤ pos c) +ℤ pos 1) ≤ℤ (u' +ℤ v')
ends_above u v u' v' t c e l = omega (arith, ints)

goes_by : (u v x y : ℤ) (z w : ℤ) → x +ℤ y ≡ (u +ℤ v) +ℤ z → w ≡ z → (x -ℤ u) +ℤ (y -ℤ v) ≡ w
goes_by u v x y z w e f = omega (arith, ints)

next_by : (u v x y c : ℤ) → x +ℤ y ≡ ((u +ℤ v) +ℤ c) +ℤ pos 1 → (x -ℤ u) +ℤ (y -ℤ v) ≡ c +ℤ pos 1
next_by u v x y c e = omega (arith, ints)

other_order : (a b c : ℤ) → a +ℤ b ≡ c → b +ℤ a ≡ c
other_order a b c e = omega (arith, ints)

positive_sum : (z : ℤ) (t : ℕ) → z ≡ pos (suc t) → pos 0 <ℤ z
positive_sum z t e = omega (arith, ints)

swapped : (a b d e : ℤ) → IsNearBoth a b d e → IsNearBoth b a e d
swapped a b d e near = record { p = near.p; q = near.q; positive = near.positive; in_x = near.in_y; in_y = near.in_x }

rest_and : (n r : ℕ) → r ≤ n → pos (n - r) +ℤ pos r ≡ pos n
rest_and n r h = omega (arith, ints)

not_negative : (n : ℕ) → pos 0 ≤ℤ pos n
not_negative n = omega (arith, ints)

module _ (f g : ℕ → ℤ) (i j n p : ℕ) (rises : i < j) (some : 1 ≤ n) (part : p ≤ n)
    (step : (k : ℕ) → (f (suc k) +ℤ g (suc k)) ≤ℤ ((f k +ℤ g k) +ℤ pos 1))
    (near : (k : ℕ) → i ≤ k → k ≤ j → IsNearBoth (f j -ℤ f i) (g j -ℤ g i) (f k -ℤ f i) (g k -ℤ g i))
    (rises_x : f i ≤ℤ f j) (rises_y : g i ≤ℤ g j) where
  by_sum : (t : ℕ) → (f j -ℤ f i) +ℤ (g j -ℤ g i) ≡ pos t → HasEdge f g i j n p
  by_sum zero is =
      let both = both_zero (f j -ℤ f i) (g j -ℤ g i) (not_below (f i) (f j) rises_x) (not_below (g i) (g j) rises_y) is in
      record {
        at = i;
        after = omega arith;
        before = rises;
        here = n;
        there = 0;
        whole = omega arith;
        in_x = nowhere n p (f i -ℤ f i) (f (suc i) -ℤ f i) (f j -ℤ f i) (itself (f i)) both.0;
        in_y = nowhere n p (g i -ℤ g i) (g (suc i) -ℤ g i) (g j -ℤ g i) (itself (g i)) both.1;
      }
  by_sum (suc t) is =
      let s = share n some (p * suc t) in
      let c = s.0 in
      let r = s.1 in
      let m = crossed (λ k. f k +ℤ g k) ((f i +ℤ g i) +ℤ pos c) step (j - i) i j (omega arith) (begins_below (f i) (g i) c)
      (ends_above (f i) (g i) (f j) (g j) (suc t) c is (share_below n p (suc t) c r some part (omega arith) s.2)) in
      let k = m.at in
      let a = f j -ℤ f i in
      let b = g j -ℤ g i in
      let d = f k -ℤ f i in
      let e = g k -ℤ g i in
      let u = f (suc k) -ℤ f i in
      let v = g (suc k) -ℤ g i in
      let x = not_below (f i) (f j) rises_x in
      let y = not_below (g i) (g j) rises_y in
      let first = near k m.after (omega (arith, m.before)) in
      let second = near (suc k) (omega (arith, m.after)) (omega (arith, m.before)) in
      let sum : d +ℤ e ≡ pos c = goes_by (f i) (g i) (f k) (g k) (pos c) (pos c) m.from refl in
      let next : u +ℤ v ≡ pos c +ℤ pos 1 = next_by (f i) (g i) (f (suc k)) (g (suc k)) (pos c) m.to in
      let rest = rest_and n r s.2.few in
      record {
        at = k;
        after = m.after;
        before = m.before;
        here = n - r;
        there = r;
        whole = omega (arith, s.2.few);
        in_x = near_first n (pos (n - r)) (pos r) (pos p) a b d e u v x y (positive_sum (a +ℤ b) t is) first second
            (not_negative (n - r)) (not_negative r) rest
            (sum_there (pos (n - r)) (pos r) d u e v (pos c) sum next ∙ in_numbers n p (suc t) c r (pos (n - r)) (a +ℤ b) rest is s.2.is);
        in_y = near_first n (pos (n - r)) (pos r) (pos p) b a e d v u y x (positive_sum (b +ℤ a) t (other_order a b (pos (suc t)) is)) (swapped a b d e first) (swapped a b u v second)
            (not_negative (n - r)) (not_negative r) rest
            (sum_there (pos (n - r)) (pos r) e v d u (pos c) (other_order d e (pos c) sum) (other_order u v (pos c +ℤ pos 1) next)
            ∙ in_numbers n p (suc t) c r (pos (n - r)) (b +ℤ a) rest (other_order a b (pos (suc t)) is) s.2.is);
      }

  whole_sum : (z : ℤ) → pos 0 ≤ℤ z → (f j -ℤ f i) +ℤ (g j -ℤ g i) ≡ z → HasEdge f g i j n p
  whole_sum (pos t) least is = by_sum t is
  whole_sum (negsuc t) least is = absurd (omega (arith, ints))

  pub edge : HasEdge f g i j n p
  edge = whole_sum ((f j -ℤ f i) +ℤ (g j -ℤ g i))
      (sum_at_least (f j -ℤ f i) (g j -ℤ g i) (not_below (f i) (f j) rises_x) (not_below (g i) (g j) rises_y)) refl

-- ---- any two coordinates

turned_edge : (h r p u v x y : ℤ) → (h *ℤ (neg_ℤ x -ℤ neg_ℤ u) +ℤ r *ℤ (neg_ℤ y -ℤ neg_ℤ u)) -ℤ p *ℤ (neg_ℤ v -ℤ neg_ℤ u)
    ≡ neg_ℤ ((h *ℤ (x -ℤ u) +ℤ r *ℤ (y -ℤ u)) -ℤ p *ℤ (v -ℤ u))
turned_edge h r p u v x y = same_value
    (less (plus (times (num h) (less (opposite (num x)) (opposite (num u)))) (times (num r) (less (opposite (num y)) (opposite (num u)))))
    (times (num p) (less (opposite (num v)) (opposite (num u)))))
    (opposite (less (plus (times (num h) (less (num x) (num u))) (times (num r) (less (num y) (num u)))) (times (num p) (less (num v) (num u)))))
    (omega arith)

same_size : (z : ℤ) (m : ℕ) → unsigned_abs (neg_ℤ z) ≤ m → unsigned_abs z ≤ m
same_size z m h = omega (arith, ints)

edge_back : (n h r p : ℕ) (u v x y : ℤ) → unsigned_abs ((pos h *ℤ (neg_ℤ x -ℤ neg_ℤ u) +ℤ pos r *ℤ (neg_ℤ y -ℤ neg_ℤ u)) -ℤ pos p *ℤ (neg_ℤ v -ℤ neg_ℤ u)) ≤ n
    → unsigned_abs ((pos h *ℤ (x -ℤ u) +ℤ pos r *ℤ (y -ℤ u)) -ℤ pos p *ℤ (v -ℤ u)) ≤ n
edge_back n h r p u v x y k =
    let P : ℤ → Type 0 = λ z. unsigned_abs z ≤ n in
    same_size ((pos h *ℤ (x -ℤ u) +ℤ pos r *ℤ (y -ℤ u)) -ℤ pos p *ℤ (v -ℤ u)) n (subst P (turned_edge (pos h) (pos r) (pos p) u v x y) k)

edge_back_x : (f g : ℕ → ℤ) (i j n p : ℕ) → HasEdge (λ k. neg_ℤ (f k)) g i j n p → HasEdge f g i j n p
edge_back_x f g i j n p m = record {
  at = m.at;
  after = m.after;
  before = m.before;
  here = m.here;
  there = m.there;
  whole = m.whole;
  in_x = edge_back n m.here m.there p (f i) (f j) (f m.at) (f (suc m.at)) m.in_x;
  in_y = m.in_y;
}

edge_back_y : (f g : ℕ → ℤ) (i j n p : ℕ) → HasEdge f (λ k. neg_ℤ (g k)) i j n p → HasEdge f g i j n p
edge_back_y f g i j n p m = record {
  at = m.at;
  after = m.after;
  before = m.before;
  here = m.here;
  there = m.there;
  whole = m.whole;
  in_x = m.in_x;
  in_y = edge_back n m.here m.there p (g i) (g j) (g m.at) (g (suc m.at)) m.in_y;
}

rising_in_x : (f g : ℕ → ℤ) (i j n p : ℕ) → i < j → 1 ≤ n → p ≤ n → ((k : ℕ) → IsUnitIn (f k) (g k) (f (suc k)) (g (suc k)))
    → ((k : ℕ) → i ≤ k → k ≤ j → IsNearBoth (f j -ℤ f i) (g j -ℤ g i) (f k -ℤ f i) (g k -ℤ g i))
    → f i ≤ℤ f j → HasEdge f g i j n p
rising_in_x f g i j n p h some part unit near x = elim (either_way (g i) (g j)) [
  | inl y ↦ edge f g i j n p h some part (λ k. up_both (f k) (g k) (f (suc k)) (g (suc k)) (unit k)) near x y
  | inr y ↦ edge_back_y f g i j n p (edge f (λ k. neg_ℤ (g k)) i j n p h some part
      (λ k. up_both (f k) (neg_ℤ (g k)) (f (suc k)) (neg_ℤ (g (suc k))) (unit_turned_y (f k) (g k) (f (suc k)) (g (suc k)) (unit k)))
      (λ k l m. near_turned_y f g i j k (near k l m)) x y)
]

any_edge : (f g : ℕ → ℤ) (i j n p : ℕ) → i < j → 1 ≤ n → p ≤ n → ((k : ℕ) → IsUnitIn (f k) (g k) (f (suc k)) (g (suc k)))
    → ((k : ℕ) → i ≤ k → k ≤ j → IsNearBoth (f j -ℤ f i) (g j -ℤ g i) (f k -ℤ f i) (g k -ℤ g i))
    → HasEdge f g i j n p
any_edge f g i j n p h some part unit near = elim (either_way (f i) (f j)) [
  | inl x ↦ rising_in_x f g i j n p h some part unit near x
  | inr x ↦ edge_back_x f g i j n p (rising_in_x (λ k. neg_ℤ (f k)) g i j n p h some part
      (λ k. unit_turned_x (f k) (g k) (f (suc k)) (g (suc k)) (unit k))
      (λ k l m. near_turned_x f g i j k (near k l m)) x)
]

pub segment_edge : (points : List Point) (i j n p : ℕ) → IsClosedWalk points → IsPossible points i j → 1 ≤ n → p ≤ n
    → HasEdge (λ k. (point_at points k).x) (λ k. (point_at points k).y) i j n p
segment_edge points i j n p closed possible some part =
    any_edge (λ k. (point_at points k).x) (λ k. (point_at points k).y) i j n p possible.rises some part
    closed.steps (λ k h l. both_near points i j k possible h l)
