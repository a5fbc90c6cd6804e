-- Near each place of a segment there is a point of the path.
use Rattle.std.proofs.Common.{◌≡◌, inl, inr, ℕ, zero, suc, ◌+◌, ◌-◌, ◌*◌, ◌≤◌, ℤ, pos, negsuc, neg_ℤ, ◌+ℤ◌, ◌-ℤ◌, ◌*ℤ◌, ◌≤ℤ◌, ◌<ℤ◌, refl, sym, subst, arith}
use Rattle.std.proofs.lemmas.Int.{ints}
use Rattle.std.specs.Prelude.{unsigned_abs}
use Rattle.pt_core.proofs.Terms.{same_value}
use Rattle.pt_core.proofs.Terms.Term.{num, plus, less, times, opposite}
use Rattle.path_cones.proofs.Signs.{product_at_least, factor_at_least}
use Rattle.std.proofs.lemmas.Bool.{cases_lt}
use Rattle.std.proofs.lemmas.Nat.{mul-le}
use Rattle.std.proofs.Common.{List}
use Rattle.pt_core.specs.ClosedWalk.{IsClosedWalk, point_at}
use Rattle.pt_core.specs.declared.point.Point.{Point}
use Rattle.straight_paths.specs.Straight.{IsPossible}
use Rattle.outline_distance.proofs.Levels.{passed}
use Rattle.outline_distance.proofs.Halves.{IsNearBoth, below, above, sum_at_least, swapped, not_below}
use Rattle.outline_distance.proofs.Middles.{IsUnitIn, near_turned_x, near_turned_y, unit_turned_x, unit_turned_y, up_both, either_way, both_near}

cross_is : (n p a b d e : ℤ) → n *ℤ (a *ℤ e -ℤ b *ℤ d)
    ≡ neg_ℤ ((p *ℤ (a +ℤ b) -ℤ n *ℤ (d +ℤ e)) *ℤ a) -ℤ (a +ℤ b) *ℤ (n *ℤ d -ℤ p *ℤ a)
cross_is n p a b d e = same_value
    (times (num n) (less (times (num a) (num e)) (times (num b) (num d))))
    (less (opposite (times (less (times (num p) (plus (num a) (num b))) (times (num n) (plus (num d) (num e)))) (num a)))
    (times (plus (num a) (num b)) (less (times (num n) (num d)) (times (num p) (num a)))))
    (omega arith)

spread_less : (n h c : ℤ) → n *ℤ (h -ℤ c) ≡ n *ℤ h -ℤ n *ℤ c
spread_less n h c = same_value (times (num n) (less (num h) (num c))) (less (times (num n) (num h)) (times (num n) (num c))) (omega arith)

spread_plus : (n h c : ℤ) → n *ℤ (h +ℤ c) ≡ n *ℤ h +ℤ n *ℤ c
spread_plus n h c = same_value (times (num n) (plus (num h) (num c))) (plus (times (num n) (num h)) (times (num n) (num c))) (omega arith)

twice_less : (n ε a : ℤ) → (n -ℤ pos 2 *ℤ ε) *ℤ a ≡ n *ℤ a -ℤ pos 2 *ℤ (ε *ℤ a)
twice_less n ε a = same_value (times (less (num n) (times (num (pos 2)) (num ε))) (num a))
    (less (times (num n) (num a)) (times (num (pos 2)) (times (num ε) (num a)))) (omega arith)

twice_plus : (n ε a : ℤ) → (n +ℤ pos 2 *ℤ ε) *ℤ a ≡ n *ℤ a +ℤ pos 2 *ℤ (ε *ℤ a)
twice_plus n ε a = same_value (times (plus (num n) (times (num (pos 2)) (num ε))) (num a))
    (plus (times (num n) (num a)) (times (num (pos 2)) (times (num ε) (num a)))) (omega arith)

thrice_less : (n w h : ℤ) → (pos 3 *ℤ n -ℤ pos 2 *ℤ w) *ℤ h ≡ pos 3 *ℤ (n *ℤ h) -ℤ pos 2 *ℤ (h *ℤ w)
thrice_less n w h = same_value (times (less (times (num (pos 3)) (num n)) (times (num (pos 2)) (num w))) (num h))
    (less (times (num (pos 3)) (times (num n) (num h))) (times (num (pos 2)) (times (num h) (num w)))) (omega arith)

thrice_plus : (n w h : ℤ) → (pos 3 *ℤ n +ℤ pos 2 *ℤ w) *ℤ h ≡ pos 3 *ℤ (n *ℤ h) +ℤ pos 2 *ℤ (h *ℤ w)
thrice_plus n w h = same_value (times (plus (times (num (pos 3)) (num n)) (times (num (pos 2)) (num w))) (num h))
    (plus (times (num (pos 3)) (times (num n) (num h))) (times (num (pos 2)) (times (num h) (num w)))) (omega arith)

-- by the products alone
linear : (nc nh na nb s hw : ℤ) → nc ≡ neg_ℤ s -ℤ hw → pos 0 ≤ℤ (nh -ℤ nc) → pos 0 ≤ℤ (nh +ℤ nc)
    → pos 0 ≤ℤ (na -ℤ pos 2 *ℤ s) → pos 0 ≤ℤ (na +ℤ pos 2 *ℤ s) → nh ≡ na +ℤ nb → pos 0 ≤ℤ nb
    → (pos 0 ≤ℤ (pos 3 *ℤ nh -ℤ pos 2 *ℤ hw)) × (pos 0 ≤ℤ (pos 3 *ℤ nh +ℤ pos 2 *ℤ hw))
linear nc nh na nb s hw e f g h k l m = (omega (arith, ints), omega (arith, ints))

pub at_least : (a b : ℤ) → a ≡ b → pos 0 ≤ℤ a → pos 0 ≤ℤ b
at_least a b e h = subst (λ (z : ℤ). pos 0 ≤ℤ z) e h

from_both : (n w : ℤ) (m : ℕ) → n ≡ pos m → pos 0 ≤ℤ (pos 3 *ℤ n -ℤ pos 2 *ℤ w) → pos 0 ≤ℤ (pos 3 *ℤ n +ℤ pos 2 *ℤ w) → unsigned_abs (pos 2 *ℤ w) ≤ 3 * m
from_both n w m e f g = omega (arith, ints)

-- where d and e together are n-ths of a and b together, to the nearest, d is near as many of a
pub near_share : (m : ℕ) (p a b d e : ℤ) → pos 0 ≤ℤ a → pos 0 ≤ℤ b → pos 0 <ℤ (a +ℤ b) → IsNearBoth a b d e
    → pos 0 ≤ℤ (pos m -ℤ pos 2 *ℤ (p *ℤ (a +ℤ b) -ℤ pos m *ℤ (d +ℤ e)))
    → pos 0 ≤ℤ (pos m +ℤ pos 2 *ℤ (p *ℤ (a +ℤ b) -ℤ pos m *ℤ (d +ℤ e)))
    → unsigned_abs (pos 2 *ℤ (pos m *ℤ d -ℤ p *ℤ a)) ≤ 3 * m
near_share m p a b d e some_a some_b some near low high =
    let n : ℤ = pos m in
    let ε : ℤ = p *ℤ (a +ℤ b) -ℤ n *ℤ (d +ℤ e) in
    let w : ℤ = n *ℤ d -ℤ p *ℤ a in
    let c : ℤ = a *ℤ e -ℤ b *ℤ d in
    let n_least : pos 0 ≤ℤ pos m = omega (arith, ints) in
    let both = linear (n *ℤ c) (n *ℤ (a +ℤ b)) (n *ℤ a) (n *ℤ b) (ε *ℤ a) ((a +ℤ b) *ℤ w) (cross_is n p a b d e)
    (at_least _ _ (spread_less n (a +ℤ b) c) (product_at_least n ((a +ℤ b) -ℤ c) n_least (below a b d e some_a some_b near)))
    (at_least _ _ (spread_plus n (a +ℤ b) c) (product_at_least n ((a +ℤ b) +ℤ c) n_least (above a b d e some_a some_b near)))
    (at_least _ _ (twice_less n ε a) (product_at_least (n -ℤ pos 2 *ℤ ε) a low some_a))
    (at_least _ _ (twice_plus n ε a) (product_at_least (n +ℤ pos 2 *ℤ ε) a high some_a))
    (spread_plus n a b) (product_at_least n b n_least some_b) in
    from_both n w m refl
    (factor_at_least (pos 3 *ℤ n -ℤ pos 2 *ℤ w) (a +ℤ b) (at_least _ _ (sym (thrice_less n w (a +ℤ b))) both.0) some)
    (factor_at_least (pos 3 *ℤ n +ℤ pos 2 *ℤ w) (a +ℤ b) (at_least _ _ (sym (thrice_plus n w (a +ℤ b))) both.1) some)

-- ---- the nearest whole number to t / n

pub record IsNearestPlace (n t h : ℕ) : Type 0 where
  pub low : 2 * t ≤ 2 * (n * h) + n
  pub high : 2 * (n * h) ≤ 2 * t + n

nearest : (n : ℕ) → 1 ≤ n → (t : ℕ) → (h : ℕ) × IsNearestPlace n t h
nearest n some zero = (0, record { low = omega arith; high = omega arith })
nearest n some (suc t) =
    let before = nearest n some t in
    let h = before.0 in
    let l = before.1.low in
    let u = before.1.high in
    elim (cases_lt (2 * (n * h) + n) (2 * suc t)) [
      | inl more ↦ (suc h, record { low = omega arith; high = omega arith })
      | inr fewer ↦ (h, record { low = fewer; high = omega arith })
    ]

no_more : (n p t h : ℕ) → 1 ≤ n → p ≤ n → IsNearestPlace n (p * t) h → h ≤ t
no_more n p t h some part near = elim (cases_lt t h) [
  | inl over ↦
      let a = mul-le n (suc t) n h (omega arith) over in
      let b = mul-le p t n t part (omega arith) in
      let c = near.high in
      absurd (omega arith)
  | inr within ↦ within
]

low_share : (n p t h : ℕ) (z w : ℤ) → z ≡ pos t → w ≡ pos h → IsNearestPlace n (p * t) h
    → pos 0 ≤ℤ (pos n -ℤ pos 2 *ℤ (pos p *ℤ z -ℤ pos n *ℤ w))
low_share n p t h z w e f near = let l = near.low in rw (e, f) (omega (arith, ints))

high_share : (n p t h : ℕ) (z w : ℤ) → z ≡ pos t → w ≡ pos h → IsNearestPlace n (p * t) h
    → pos 0 ≤ℤ (pos n +ℤ pos 2 *ℤ (pos p *ℤ z -ℤ pos n *ℤ w))
high_share n p t h z w e f near = let l = near.high in rw (e, f) (omega (arith, ints))

-- ---- two coordinates that rise from i to j

pub record HasPlace (f g : ℕ → ℤ) (i j n p : ℕ) : Type 0 where
  pub at : ℕ
  pub after : i ≤ at
  pub before : at ≤ j
  pub in_x : unsigned_abs (pos 2 *ℤ (pos n *ℤ (f at -ℤ f i) -ℤ pos p *ℤ (f j -ℤ f i))) ≤ 3 * n
  pub in_y : unsigned_abs (pos 2 *ℤ (pos n *ℤ (g at -ℤ g i) -ℤ pos p *ℤ (g j -ℤ g i))) ≤ 3 * n

nowhere_far : (n p : ℕ) (z w : ℤ) → z ≡ pos 0 → w ≡ pos 0 → unsigned_abs (pos 2 *ℤ (pos n *ℤ z -ℤ pos p *ℤ w)) ≤ 3 * n
nowhere_far n p z w e f = rw (e, f) (omega (arith, ints))

itself : (u : ℤ) → u -ℤ u ≡ pos 0
itself u = omega (arith, ints)

both_zero : (a b : ℤ) → pos 0 ≤ℤ a → pos 0 ≤ℤ b → a +ℤ b ≡ pos 0 → (a ≡ pos 0) × (b ≡ pos 0)
both_zero a b h k e = (omega (arith, ints), omega (arith, ints))

ends_above : (u v u' v' : ℤ) (t h : ℕ) → (u' -ℤ u) +ℤ (v' -ℤ v) ≡ pos t → h ≤ t → ((u +ℤ v) +ℤ pos h) ≤ℤ (u' +ℤ v')
ends_above u v u' v' t h e l = omega (arith, ints)

begins_below : (u v : ℤ) (h : ℕ) → (u +ℤ v) ≤ℤ ((u +ℤ v) +ℤ pos h)
begins_below u v h = omega (arith, ints)

goes_by : (u v x y : ℤ) (h : ℕ) → x +ℤ y ≡ (u +ℤ v) +ℤ pos h → (x -ℤ u) +ℤ (y -ℤ v) ≡ pos h
goes_by u v x y h e = omega (arith, ints)

other_order : (a b c : ℤ) → a +ℤ b ≡ c → b +ℤ a ≡ c
other_order a b c e = omega (arith, ints)

positive_sum : (z : ℤ) (t : ℕ) → z ≡ pos (suc t) → pos 0 <ℤ z
positive_sum z t e = omega (arith, ints)

module _ (f g : ℕ → ℤ) (i j n p : ℕ) (h : i ≤ j) (some : 1 ≤ n) (part : p ≤ n)
    (step : (k : ℕ) → (f (suc k) +ℤ g (suc k)) ≤ℤ ((f k +ℤ g k) +ℤ pos 1))
    (near : (k : ℕ) → i ≤ k → k ≤ j → IsNearBoth (f j -ℤ f i) (g j -ℤ g i) (f k -ℤ f i) (g k -ℤ g i))
    (rises_x : f i ≤ℤ f j) (rises_y : g i ≤ℤ g j) where
  by_sum : (t : ℕ) → (f j -ℤ f i) +ℤ (g j -ℤ g i) ≡ pos t → HasPlace f g i j n p
  by_sum zero is =
      let both = both_zero (f j -ℤ f i) (g j -ℤ g i) (not_below (f i) (f j) rises_x) (not_below (g i) (g j) rises_y) is in
      record {
        at = i;
        after = omega arith;
        before = h;
        in_x = nowhere_far n p (f i -ℤ f i) (f j -ℤ f i) (itself (f i)) both.0;
        in_y = nowhere_far n p (g i -ℤ g i) (g j -ℤ g i) (itself (g i)) both.1;
      }
  by_sum (suc t) is =
      let c = nearest n some (p * suc t) in
      let m = passed (λ k. f k +ℤ g k) ((f i +ℤ g i) +ℤ pos c.0) step (j - i) i j (omega arith) (begins_below (f i) (g i) c.0)
      (ends_above (f i) (g i) (f j) (g j) (suc t) c.0 is (no_more n p (suc t) c.0 some part c.1)) in
      let by = goes_by (f i) (g i) (f m.at) (g m.at) c.0 m.is in
      let k = near m.at m.after m.before in
      let a = f j -ℤ f i in
      let b = g j -ℤ g i in
      let d = f m.at -ℤ f i in
      let e = g m.at -ℤ g i in
      record {
        at = m.at;
        after = m.after;
        before = m.before;
        in_x = near_share n (pos p) a b d e (not_below (f i) (f j) rises_x) (not_below (g i) (g j) rises_y) (positive_sum (a +ℤ b) t is) k
            (low_share n p (suc t) c.0 (a +ℤ b) (d +ℤ e) is by c.1) (high_share n p (suc t) c.0 (a +ℤ b) (d +ℤ e) is by c.1);
        in_y = near_share n (pos p) b a e d (not_below (g i) (g j) rises_y) (not_below (f i) (f j) rises_x)
            (positive_sum (b +ℤ a) t (other_order a b (pos (suc t)) is)) (swapped a b d e k)
            (low_share n p (suc t) c.0 (b +ℤ a) (e +ℤ d) (other_order a b (pos (suc t)) is) (other_order d e (pos c.0) by) c.1)
            (high_share n p (suc t) c.0 (b +ℤ a) (e +ℤ d) (other_order a b (pos (suc t)) is) (other_order d e (pos c.0) by) c.1);
      }

  whole : (z : ℤ) → pos 0 ≤ℤ z → (f j -ℤ f i) +ℤ (g j -ℤ g i) ≡ z → HasPlace f g i j n p
  whole (pos t) least is = by_sum t is
  whole (negsuc t) least is = absurd (omega (arith, ints))

  pub place : HasPlace f g i j n p
  place = whole ((f j -ℤ f i) +ℤ (g j -ℤ g i)) (sum_at_least (f j -ℤ f i) (g j -ℤ g i) (not_below (f i) (f j) rises_x) (not_below (g i) (g j) rises_y)) refl

-- ---- any two coordinates

turned_share : (n p u v x : ℤ) → pos 2 *ℤ (n *ℤ (neg_ℤ x -ℤ neg_ℤ u) -ℤ p *ℤ (neg_ℤ v -ℤ neg_ℤ u)) ≡ neg_ℤ (pos 2 *ℤ (n *ℤ (x -ℤ u) -ℤ p *ℤ (v -ℤ u)))
turned_share n p u v x = same_value
    (times (num (pos 2)) (less (times (num n) (less (opposite (num x)) (opposite (num u)))) (times (num p) (less (opposite (num v)) (opposite (num u))))))
    (opposite (times (num (pos 2)) (less (times (num n) (less (num x) (num u))) (times (num p) (less (num v) (num u))))))
    (omega arith)

same_size : (z : ℤ) (m : ℕ) → unsigned_abs (neg_ℤ z) ≤ m → unsigned_abs z ≤ m
same_size z m h = omega (arith, ints)

share_back : (n p : ℕ) (u v x : ℤ) → unsigned_abs (pos 2 *ℤ (pos n *ℤ (neg_ℤ x -ℤ neg_ℤ u) -ℤ pos p *ℤ (neg_ℤ v -ℤ neg_ℤ u))) ≤ 3 * n
    → unsigned_abs (pos 2 *ℤ (pos n *ℤ (x -ℤ u) -ℤ pos p *ℤ (v -ℤ u))) ≤ 3 * n
share_back n p u v x h =
    let P : ℤ → Type 0 = λ z. unsigned_abs z ≤ 3 * n in
    same_size (pos 2 *ℤ (pos n *ℤ (x -ℤ u) -ℤ pos p *ℤ (v -ℤ u))) (3 * n) (subst P (turned_share (pos n) (pos p) u v x) h)

place_back_x : (f g : ℕ → ℤ) (i j n p : ℕ) → HasPlace (λ k. neg_ℤ (f k)) g i j n p → HasPlace f g i j n p
place_back_x f g i j n p m = record {
  at = m.at;
  after = m.after;
  before = m.before;
  in_x = share_back n p (f i) (f j) (f m.at) m.in_x;
  in_y = m.in_y;
}

place_back_y : (f g : ℕ → ℤ) (i j n p : ℕ) → HasPlace f (λ k. neg_ℤ (g k)) i j n p → HasPlace f g i j n p
place_back_y f g i j n p m = record {
  at = m.at;
  after = m.after;
  before = m.before;
  in_x = m.in_x;
  in_y = share_back n p (g i) (g j) (g m.at) m.in_y;
}

rising_in_x : (f g : ℕ → ℤ) (i j n p : ℕ) → i ≤ j → 1 ≤ n → p ≤ n → ((k : ℕ) → IsUnitIn (f k) (g k) (f (suc k)) (g (suc k)))
    → ((k : ℕ) → i ≤ k → k ≤ j → IsNearBoth (f j -ℤ f i) (g j -ℤ g i) (f k -ℤ f i) (g k -ℤ g i))
    → f i ≤ℤ f j → HasPlace f g i j n p
rising_in_x f g i j n p h some part unit near x = elim (either_way (g i) (g j)) [
  | inl y ↦ place f g i j n p h some part (λ k. up_both (f k) (g k) (f (suc k)) (g (suc k)) (unit k)) near x y
  | inr y ↦ place_back_y f g i j n p (place f (λ k. neg_ℤ (g k)) i j n p h some part
      (λ k. up_both (f k) (neg_ℤ (g k)) (f (suc k)) (neg_ℤ (g (suc k))) (unit_turned_y (f k) (g k) (f (suc k)) (g (suc k)) (unit k)))
      (λ k l m. near_turned_y f g i j k (near k l m)) x y)
]

any_place : (f g : ℕ → ℤ) (i j n p : ℕ) → i ≤ j → 1 ≤ n → p ≤ n → ((k : ℕ) → IsUnitIn (f k) (g k) (f (suc k)) (g (suc k)))
    → ((k : ℕ) → i ≤ k → k ≤ j → IsNearBoth (f j -ℤ f i) (g j -ℤ g i) (f k -ℤ f i) (g k -ℤ g i))
    → HasPlace f g i j n p
any_place f g i j n p h some part unit near = elim (either_way (f i) (f j)) [
  | inl x ↦ rising_in_x f g i j n p h some part unit near x
  | inr x ↦ place_back_x f g i j n p (rising_in_x (λ k. neg_ℤ (f k)) g i j n p h some part
      (λ k. unit_turned_x (f k) (g k) (f (suc k)) (g (suc k)) (unit k))
      (λ k l m. near_turned_x f g i j k (near k l m)) x)
]

pub segment_place : (points : List Point) (i j n p : ℕ) → IsClosedWalk points → IsPossible points i j → 1 ≤ n → p ≤ n
    → HasPlace (λ k. (point_at points k).x) (λ k. (point_at points k).y) i j n p
segment_place points i j n p closed possible some part =
    any_place (λ k. (point_at points k).x) (λ k. (point_at points k).y) i j n p (omega (arith, possible.rises)) some part
    closed.steps (λ k h l. both_near points i j k possible h l)
