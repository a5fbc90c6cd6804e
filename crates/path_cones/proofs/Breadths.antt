-- Points of a strip that is as broad as its way, seen from one of them, in the quarter of ways up and to the right.
use Rattle.std.proofs.Common.{◌≡◌, ◌⊎◌, inl, inr, ℕ, zero, suc, ℤ, pos, negsuc, ◌+ℤ◌, ◌-ℤ◌, ◌*ℤ◌, neg_ℤ, ◌≤ℤ◌, ◌<ℤ◌, sym, subst, arith}
use Rattle.std.proofs.lemmas.Int.{ints, by_lt_z}
use Rattle.pt_core.proofs.Terms.{same_value}
use Rattle.pt_core.proofs.Terms.Term.{num, plus, less, times, opposite}
use Rattle.path_cones.specs.Straight.{IsNear, StaysWithin}
use Rattle.path_cones.specs.Cones.{cross_of}
use Rattle.path_cones.specs.Inner.Wedges.{IsSign, IsQuarter, far_of}
use Rattle.path_cones.specs.declared.vector.Vector.{Vector}
use Rattle.path_cones.specs.declared.quarter.Quarter.{Quarter}
use Rattle.path_cones.proofs.Nearness.{small_is_near}
use Rattle.path_cones.proofs.Signs.{product_at_least, factor_at_least}
use Rattle.path_cones.proofs.Turning.{cross_term}

-- the place is from one border to the other
abbrev pub IsAcross : ℤ → ℤ → Type 0
IsAcross w a = (pos 0 ≤ℤ a) × (a ≤ℤ w)

-- a size is at most t
abbrev IsUpTo : ℤ → ℤ → Type 0
IsUpTo t x = (pos 0 ≤ℤ (t -ℤ x)) × (pos 0 ≤ℤ (t +ℤ x))

rest_at_least : (a b : ℤ) → a ≤ℤ b → pos 0 ≤ℤ (b -ℤ a)
rest_at_least a b h = omega (arith, ints)

two_at_least : (a b : ℤ) → pos 0 ≤ℤ a → pos 0 ≤ℤ b → pos 0 ≤ℤ (a +ℤ b)
two_at_least a b h k = omega (arith, ints)

three_at_least : (a b c : ℤ) → pos 0 ≤ℤ a → pos 0 ≤ℤ b → pos 0 ≤ℤ c → pos 0 ≤ℤ (a +ℤ (b +ℤ c))
three_at_least a b c h k l = omega (arith, ints)

-- near by that part of the way which is s of t
near_by : (m e : Vector) (s t : ℤ) → pos 0 ≤ℤ s → pos 0 <ℤ t
    → IsUpTo t (t *ℤ m.x -ℤ s *ℤ e.x) → IsUpTo t (t *ℤ m.y -ℤ s *ℤ e.y) → IsNear m e
near_by m e (pos s) (pos (suc t)) front some in_x in_y =
    let high_x = in_x.0 in
    let low_x = in_x.1 in
    let high_y = in_y.0 in
    let low_y = in_y.1 in
    record {
      p = s;
      q = suc t;
      positive = omega arith;
      in_x = record { low = omega (arith, ints); high = omega (arith, ints) };
      in_y = record { low = omega (arith, ints); high = omega (arith, ints) };
    }
near_by m e (pos s) (pos zero) front some in_x in_y = absurd (omega (arith, ints))
near_by m e (pos s) (negsuc t) front some in_x in_y = absurd (omega (arith, ints))
near_by m e (negsuc s) t front some in_x in_y = absurd (omega (arith, ints))

-- ---- between two ends: neither is behind

-- what the strip's way makes of the cross product of two others
shared_cross : (d m e : Vector) → (d.x +ℤ d.y) *ℤ cross_of m e ≡ (m.x +ℤ m.y) *ℤ cross_of d e -ℤ (e.x +ℤ e.y) *ℤ cross_of d m
shared_cross d m e = same_value
    (times (plus (num d.x) (num d.y)) (cross_term m e))
    (less (times (plus (num m.x) (num m.y)) (cross_term d e)) (times (plus (num e.x) (num e.y)) (cross_term d m)))
    (omega arith)

below_by : (w s t a m e : ℤ) → t *ℤ w -ℤ (s *ℤ e -ℤ t *ℤ m) ≡ s *ℤ (w -ℤ (a +ℤ e)) +ℤ ((t -ℤ s) *ℤ (w -ℤ a) +ℤ t *ℤ (a +ℤ m))
below_by w s t a m e = same_value
    (less (times (num t) (num w)) (less (times (num s) (num e)) (times (num t) (num m))))
    (plus (times (num s) (less (num w) (plus (num a) (num e))))
    (plus (times (less (num t) (num s)) (less (num w) (num a))) (times (num t) (plus (num a) (num m)))))
    (omega arith)

above_by : (w s t a m e : ℤ) → t *ℤ w +ℤ (s *ℤ e -ℤ t *ℤ m) ≡ s *ℤ (a +ℤ e) +ℤ ((t -ℤ s) *ℤ a +ℤ t *ℤ (w -ℤ (a +ℤ m)))
above_by w s t a m e = same_value
    (plus (times (num t) (num w)) (less (times (num s) (num e)) (times (num t) (num m))))
    (plus (times (num s) (plus (num a) (num e)))
    (plus (times (less (num t) (num s)) (num a)) (times (num t) (less (num w) (plus (num a) (num m))))))
    (omega arith)

shared_low : (w t x : ℤ) → (t +ℤ x) *ℤ w ≡ t *ℤ w +ℤ w *ℤ x
shared_low w t x = same_value (times (plus (num t) (num x)) (num w)) (plus (times (num t) (num w)) (times (num w) (num x))) (omega arith)

shared_high : (w t x : ℤ) → (t -ℤ x) *ℤ w ≡ t *ℤ w -ℤ w *ℤ x
shared_high w t x = same_value (times (less (num t) (num x)) (num w)) (less (times (num t) (num w)) (times (num w) (num x))) (omega arith)

-- the cross product of two points of the strip is at most as far as the later one is
cross_up_to : (w s t a m e x : ℤ) → pos 0 <ℤ w → pos 0 ≤ℤ s → s ≤ℤ t → IsAcross w a → IsAcross w (a +ℤ m) → IsAcross w (a +ℤ e)
    → w *ℤ x ≡ s *ℤ e -ℤ t *ℤ m → IsUpTo t x
cross_up_to w s t a m e x some front order here middle end is =
    let later : pos 0 ≤ℤ t = omega (arith, ints) in
    let high = three_at_least _ _ _
    (product_at_least s (w -ℤ (a +ℤ e)) front (rest_at_least _ _ end.1))
    (product_at_least (t -ℤ s) (w -ℤ a) (rest_at_least _ _ order) (rest_at_least _ _ here.1))
    (product_at_least t (a +ℤ m) later middle.0) in
    let low = three_at_least _ _ _
    (product_at_least s (a +ℤ e) front end.0)
    (product_at_least (t -ℤ s) a (rest_at_least _ _ order) here.0)
    (product_at_least t (w -ℤ (a +ℤ m)) later (rest_at_least _ _ middle.1)) in
    let h = below_by w s t a m e in
    let l = above_by w s t a m e in
    let g = shared_high w t x in
    let k = shared_low w t x in
    (factor_at_least (t -ℤ x) w (rw (g, is, h) high) some, factor_at_least (t +ℤ x) w (rw (k, is, l) low) some)

part_x : (m e : Vector) → (e.x +ℤ e.y) *ℤ m.x -ℤ (m.x +ℤ m.y) *ℤ e.x ≡ cross_of m e
part_x m e = same_value
    (less (times (plus (num e.x) (num e.y)) (num m.x)) (times (plus (num m.x) (num m.y)) (num e.x)))
    (cross_term m e)
    (omega arith)

part_y : (m e : Vector) → (e.x +ℤ e.y) *ℤ m.y -ℤ (m.x +ℤ m.y) *ℤ e.y ≡ neg_ℤ (cross_of m e)
part_y m e = same_value
    (less (times (plus (num e.x) (num e.y)) (num m.y)) (times (plus (num m.x) (num m.y)) (num e.y)))
    (opposite (cross_term m e))
    (omega arith)

turned_up_to : (t x : ℤ) → IsUpTo t x → IsUpTo t (neg_ℤ x)
turned_up_to t x h = let a = h.0 in let b = h.1 in (omega (arith, ints), omega (arith, ints))

-- near by the part that the one way is of the other in length, where the cross product is at most as far as the other one
pub near_by_cross : (m e : Vector) → pos 0 ≤ℤ (m.x +ℤ m.y) → pos 0 <ℤ (e.x +ℤ e.y)
    → cross_of m e ≤ℤ (e.x +ℤ e.y) → (pos 0 -ℤ (e.x +ℤ e.y)) ≤ℤ cross_of m e → IsNear m e
near_by_cross m e front goes most least =
    let up_to : IsUpTo (e.x +ℤ e.y) (cross_of m e) = (omega (arith, ints), omega (arith, ints)) in
    let in_x = part_x m e in
    let in_y = part_y m e in
    near_by m e (m.x +ℤ m.y) (e.x +ℤ e.y) front goes (rw in_x up_to) (rw in_y (turned_up_to (e.x +ℤ e.y) (cross_of m e) up_to))

near_between : (d m e : Vector) (a : ℤ) → pos 0 <ℤ (d.x +ℤ d.y)
    → pos 0 ≤ℤ (m.x +ℤ m.y) → (m.x +ℤ m.y) ≤ℤ (e.x +ℤ e.y) → pos 0 <ℤ (e.x +ℤ e.y)
    → IsAcross (d.x +ℤ d.y) a → IsAcross (d.x +ℤ d.y) (a +ℤ cross_of d m) → IsAcross (d.x +ℤ d.y) (a +ℤ cross_of d e) → IsNear m e
near_between d m e a some front order goes here middle end =
    let up_to = cross_up_to (d.x +ℤ d.y) (m.x +ℤ m.y) (e.x +ℤ e.y) a (cross_of d m) (cross_of d e) (cross_of m e)
    some front order here middle end (shared_cross d m e) in
    let most = up_to.0 in
    let least = up_to.1 in
    near_by_cross m e front goes (omega (arith, ints)) (omega (arith, ints))

-- ---- at the half-line's end

near_end : (m e : Vector) → IsUpTo (pos 1) (m.x -ℤ e.x) → IsUpTo (pos 1) (m.y -ℤ e.y) → IsNear m e
near_end m e in_x in_y =
    let a = in_x.0 in
    let b = in_x.1 in
    let c = in_y.0 in
    let d = in_y.1 in
    near_by m e (pos 1) (pos 1) (omega (arith, ints)) (omega (arith, ints)) (omega (arith, ints), omega (arith, ints)) (omega (arith, ints), omega (arith, ints))

-- ---- along a row or a column

-- one coordinate differs by 1 at most; by the other one
flat_by : (a c b f : ℤ) → f *ℤ a -ℤ b *ℤ c ≡ (f -ℤ b) *ℤ a +ℤ b *ℤ (a -ℤ c)
flat_by a c b f = same_value
    (less (times (num f) (num a)) (times (num b) (num c)))
    (plus (times (less (num f) (num b)) (num a)) (times (num b) (less (num a) (num c))))
    (omega arith)

-- of a number that is at most 1, a product with one that isn't negative
product_up_to : (b x : ℤ) → pos 0 ≤ℤ b → IsUpTo (pos 1) x → IsUpTo b (b *ℤ x)
product_up_to b x front is =
    let high = product_at_least b (pos 1 -ℤ x) front is.0 in
    let low = product_at_least b (pos 1 +ℤ x) front is.1 in
    let g = same_value (times (num b) (less (num (pos 1)) (num x))) (less (num b) (times (num b) (num x))) (omega arith) in
    let k = same_value (times (num b) (plus (num (pos 1)) (num x))) (plus (num b) (times (num b) (num x))) (omega arith) in
    (rw g at high, rw k at low)

sum_up_to : (t u x y : ℤ) → IsUpTo (t -ℤ u) x → IsUpTo u y → IsUpTo t (x +ℤ y)
sum_up_to t u x y h k =
    let a = h.0 in
    let b = h.1 in
    let c = k.0 in
    let d = k.1 in
    (omega (arith, ints), omega (arith, ints))

flat_up_to : (a c b f : ℤ) → pos 0 ≤ℤ b → b ≤ℤ f → IsUpTo (pos 1) a → IsUpTo (pos 1) (a -ℤ c) → IsUpTo f (f *ℤ a -ℤ b *ℤ c)
flat_up_to a c b f front order here apart =
    let e = flat_by a c b f in
    rw e (sum_up_to f b ((f -ℤ b) *ℤ a) (b *ℤ (a -ℤ c))
    (product_up_to (f -ℤ b) a (rest_at_least _ _ order) here) (product_up_to b (a -ℤ c) front apart))

same_part : (b f : ℤ) → f *ℤ b -ℤ b *ℤ f ≡ pos 0
same_part b f = same_value (less (times (num f) (num b)) (times (num b) (num f))) (num (pos 0)) (omega arith)

none_up_to : (f : ℤ) → pos 0 <ℤ f → IsUpTo f (pos 0)
none_up_to f h = (omega (arith, ints), omega (arith, ints))

near_up : (m e : Vector) → pos 2 ≤ℤ m.y → m.y ≤ℤ e.y → IsUpTo (pos 1) m.x → IsUpTo (pos 1) (m.x -ℤ e.x) → IsNear m e
near_up m e far order here apart =
    let z = same_part m.y e.y in
    near_by m e m.y e.y (omega (arith, ints)) (omega (arith, ints))
    (flat_up_to m.x e.x m.y e.y (omega (arith, ints)) order here apart) (rw z (none_up_to e.y (omega (arith, ints))))

near_right : (m e : Vector) → pos 2 ≤ℤ m.x → m.x ≤ℤ e.x → IsUpTo (pos 1) m.y → IsUpTo (pos 1) (m.y -ℤ e.y) → IsNear m e
near_right m e far order here apart =
    let z = same_part m.x e.x in
    near_by m e m.x e.x (omega (arith, ints)) (omega (arith, ints))
    (rw z (none_up_to e.x (omega (arith, ints)))) (flat_up_to m.y e.y m.x e.x (omega (arith, ints)) order here apart)

-- a strip that is along a column, or along a row
factor_none : (d z : ℤ) → pos 0 ≤ℤ d → pos 0 <ℤ z → (d *ℤ z) ≤ℤ pos 0 → d ≡ pos 0
factor_none (pos zero) z h k l = omega (arith, ints)
factor_none (pos (suc d)) (pos (suc z)) h k l = absurd (omega (arith, ints))
factor_none (pos (suc d)) (pos zero) h k l = absurd (omega (arith, ints))
factor_none (pos (suc d)) (negsuc z) h k l = absurd (omega (arith, ints))
factor_none (negsuc d) z h k l = absurd (omega (arith, ints))

one_less : (d z : ℤ) → d *ℤ (z -ℤ pos 1) ≡ d *ℤ z -ℤ d
one_less d z = same_value (times (num d) (less (num z) (num (pos 1)))) (less (times (num d) (num z)) (num d)) (omega arith)

is_up : (dx dy x y : ℤ) → pos 0 ≤ℤ dx → x ≡ negsuc 0 → pos 2 ≤ℤ y → (dx *ℤ y -ℤ dy *ℤ x) ≤ℤ (dx +ℤ dy) → dx ≡ pos 0
is_up dx dy x y some back far within =
    let P : ℤ → Type 0 = λ z. (dx *ℤ y -ℤ dy *ℤ z) ≤ℤ (dx +ℤ dy) in
    let h = subst P back within in
    let e = one_less dx y in
    factor_none dx (y -ℤ pos 1) some (omega (arith, ints)) (rw e (omega (arith, ints)))

is_right : (dx dy x y : ℤ) → pos 0 ≤ℤ dy → y ≡ negsuc 0 → pos 2 ≤ℤ x → neg_ℤ (dx +ℤ dy) ≤ℤ (dx *ℤ y -ℤ dy *ℤ x) → dy ≡ pos 0
is_right dx dy x y some back far within =
    let P : ℤ → Type 0 = λ z. neg_ℤ (dx +ℤ dy) ≤ℤ (dx *ℤ z -ℤ dy *ℤ x) in
    let h = subst P back within in
    let e = one_less dy x in
    factor_none dy (x -ℤ pos 1) some (omega (arith, ints)) (rw e (omega (arith, ints)))

-- the one of a strip along a column is at most 1 across
across_by : (d x : ℤ) → pos 0 <ℤ d → pos 0 ≤ℤ (d -ℤ d *ℤ x) → pos 0 ≤ℤ (d +ℤ d *ℤ x) → IsUpTo (pos 1) x
across_by d x some high low =
    let g = same_value (times (less (num (pos 1)) (num x)) (num d)) (less (num d) (times (num d) (num x))) (omega arith) in
    let k = same_value (times (plus (num (pos 1)) (num x)) (num d)) (plus (num d) (times (num d) (num x))) (omega arith) in
    (factor_at_least (pos 1 -ℤ x) d (rw g high) some, factor_at_least (pos 1 +ℤ x) d (rw k low) some)

difference_by : (d x y : ℤ) → d *ℤ (x -ℤ y) ≡ d *ℤ x -ℤ d *ℤ y
difference_by d x y = same_value (times (num d) (less (num x) (num y))) (less (times (num d) (num x)) (times (num d) (num y))) (omega arith)

no_times : (d z : ℤ) → d ≡ pos 0 → d *ℤ z ≡ pos 0
no_times d z e = let P : ℤ → Type 0 = λ x. x *ℤ z ≡ pos 0 in subst P (sym e) (omega (arith, ints))

-- two points of a strip, one later than the other, whose path goes back by 1 at most
module _ (d m e : Vector) (a : ℤ) (right : pos 0 ≤ℤ d.x) (up : pos 0 ≤ℤ d.y) (some : pos 0 <ℤ (d.x +ℤ d.y))
    (m_right : negsuc 0 ≤ℤ m.x) (m_up : negsuc 0 ≤ℤ m.y) (e_right : m.x ≤ℤ (e.x +ℤ pos 1)) (e_up : m.y ≤ℤ (e.y +ℤ pos 1))
    (here : IsAcross (d.x +ℤ d.y) a) (middle : IsAcross (d.x +ℤ d.y) (a +ℤ cross_of d m)) (end : IsAcross (d.x +ℤ d.y) (a +ℤ cross_of d e)) where
  h0 : pos 0 ≤ℤ a
  h0 = here.0

  h1 : a ≤ℤ (d.x +ℤ d.y)
  h1 = here.1

  m0 : pos 0 ≤ℤ (a +ℤ cross_of d m)
  m0 = middle.0

  m1 : (a +ℤ cross_of d m) ≤ℤ (d.x +ℤ d.y)
  m1 = middle.1

  e0 : pos 0 ≤ℤ (a +ℤ cross_of d e)
  e0 = end.0

  e1 : (a +ℤ cross_of d e) ≤ℤ (d.x +ℤ d.y)
  e1 = end.1

  abbrev IsFar : Type 0
  IsFar = (pos 2 ≤ℤ m.x) ⊎ (pos 2 ≤ℤ m.y)

  abbrev IsBefore : Type 0
  IsBefore = ((m.x +ℤ pos 2) ≤ℤ e.x) ⊎ ((m.y +ℤ pos 2) ≤ℤ e.y)

  along_column : d.x ≡ pos 0 → IsFar → IsBefore → IsNear m e
  along_column column far before =
      let f = no_times d.x m.y column in
      let g = no_times d.x e.y column in
      let k = difference_by d.y m.x e.x in
      let across : IsUpTo (pos 1) m.x = across_by d.y m.x (omega (arith, ints)) (omega (arith, ints, m0, m1, h0, h1)) (omega (arith, ints, m0, m1, h0, h1)) in
      let apart : IsUpTo (pos 1) (m.x -ℤ e.x) = across_by d.y (m.x -ℤ e.x) (omega (arith, ints))
      (rw k (omega (arith, ints, m0, m1, e0, e1))) (rw k (omega (arith, ints, m0, m1, e0, e1))) in
      let across_high = across.0 in
      let across_low = across.1 in
      let apart_high = apart.0 in
      let apart_low = apart.1 in
      elim far [
        | inl x ↦ absurd (omega (arith, ints))
        | inr y ↦ elim before [
          | inl l ↦ absurd (omega (arith, ints))
          | inr l ↦ near_up m e y (omega (arith, ints)) across apart
        ]
      ]

  along_row : d.y ≡ pos 0 → IsFar → IsBefore → IsNear m e
  along_row row far before =
      let f = no_times d.y m.x row in
      let g = no_times d.y e.x row in
      let k = difference_by d.x m.y e.y in
      let across : IsUpTo (pos 1) m.y = across_by d.x m.y (omega (arith, ints)) (omega (arith, ints, m0, m1, h0, h1)) (omega (arith, ints, m0, m1, h0, h1)) in
      let apart : IsUpTo (pos 1) (m.y -ℤ e.y) = across_by d.x (m.y -ℤ e.y) (omega (arith, ints))
      (rw k (omega (arith, ints, m0, m1, e0, e1))) (rw k (omega (arith, ints, m0, m1, e0, e1))) in
      let across_high = across.0 in
      let across_low = across.1 in
      let apart_high = apart.0 in
      let apart_low = apart.1 in
      elim far [
        | inr y ↦ absurd (omega (arith, ints))
        | inl x ↦ elim before [
          | inr l ↦ absurd (omega (arith, ints))
          | inl l ↦ near_right m e x (omega (arith, ints)) across apart
        ]
      ]

  turn_on : cross_of d (record { x = e.x -ℤ m.x; y = e.y -ℤ m.y }) ≡ cross_of d e -ℤ cross_of d m
  turn_on = same_value
      (less (times (num d.x) (less (num e.y) (num m.y))) (times (num d.y) (less (num e.x) (num m.x))))
      (less (cross_term d e) (cross_term d m))
      (omega arith)

  by_cases : IsFar → IsBefore → IsNear m e
  by_cases far before =
      let k = turn_on in
      by_lt_z m.x (pos 0)
      (λ l. along_column (elim far [
        | inl x ↦ absurd (omega (arith, ints))
        | inr y ↦ is_up d.x d.y m.x m.y right (omega (arith, ints)) y (omega (arith, ints, m1, h0))
      ]) far before)
      (λ l. by_lt_z m.y (pos 0)
      (λ n. along_row (elim far [
        | inl x ↦ is_right d.x d.y m.x m.y up (omega (arith, ints)) x (omega (arith, ints, m0, h1))
        | inr y ↦ absurd (omega (arith, ints))
      ]) far before)
      (λ n. by_lt_z e.x m.x
      (λ o. along_column (elim before [
        | inl x ↦ absurd (omega (arith, ints))
        | inr y ↦ is_up d.x d.y (e.x -ℤ m.x) (e.y -ℤ m.y) right (omega (arith, ints)) (omega (arith, ints)) (rw k (omega (arith, ints, m0, e1)))
      ]) far before)
      (λ o. by_lt_z e.y m.y
      (λ q. along_row (elim before [
        | inl x ↦ is_right d.x d.y (e.x -ℤ m.x) (e.y -ℤ m.y) up (omega (arith, ints)) (omega (arith, ints)) (rw k (omega (arith, ints, m1, e0)))
        | inr y ↦ absurd (omega (arith, ints))
      ]) far before)
      (λ q. near_between d m e a some (omega (arith, ints)) (omega (arith, ints))
      (elim far [ inl x ↦ omega (arith, ints) | inr y ↦ omega (arith, ints) ]) here middle end))))

  not_far : (P : Type 0) → (IsFar → P) → (m.x ≤ℤ pos 1 → m.y ≤ℤ pos 1 → P) → P
  not_far P far near = by_lt_z (pos 1) m.x (λ l. far (inl (omega (arith, ints)))) (λ l. by_lt_z (pos 1) m.y (λ n. far (inr (omega (arith, ints)))) (λ n. near l n))

  not_before : (P : Type 0) → (IsBefore → P) → (e.x ≤ℤ (m.x +ℤ pos 1) → e.y ≤ℤ (m.y +ℤ pos 1) → P) → P
  not_before P before near =
      by_lt_z (m.x +ℤ pos 1) e.x (λ l. before (inl (omega (arith, ints)))) (λ l. by_lt_z (m.y +ℤ pos 1) e.y (λ n. before (inr (omega (arith, ints)))) (λ n. near l n))

  near_in_quarter : IsNear m e
  near_in_quarter =
      not_far (IsNear m e)
      (λ far. not_before (IsNear m e) (λ before. by_cases far before)
      (λ l n. near_end m e (omega (arith, ints), omega (arith, ints)) (omega (arith, ints), omega (arith, ints))))
      (λ l n. small_is_near m e (record { x = omega (arith, ints); y = omega (arith, ints) }))

-- ---- in any quarter

-- a vector as it is in the quarter of ways up and to the right
abbrev pub turned : Quarter → Vector → Vector
turned q o = record { x = q.right *ℤ o.x; y = q.up *ℤ o.y }

pub cross_turned : (q : Quarter) (d m : Vector) → cross_of (turned q d) (turned q m) ≡ q.right *ℤ q.up *ℤ cross_of d m
cross_turned q d m = same_value
    (less (times (times (num q.right) (num d.x)) (times (num q.up) (num m.y))) (times (times (num q.up) (num d.y)) (times (num q.right) (num m.x))))
    (times (times (num q.right) (num q.up)) (cross_term d m))
    (omega arith)

signed_part : (n p s x y : ℤ) → n *ℤ (s *ℤ x) -ℤ p *ℤ (s *ℤ y) ≡ s *ℤ (n *ℤ x -ℤ p *ℤ y)
signed_part n p s x y = same_value
    (less (times (num n) (times (num s) (num x))) (times (num p) (times (num s) (num y))))
    (times (num s) (less (times (num n) (num x)) (times (num p) (num y))))
    (omega arith)

unsigned_within : (n : ℕ) (s z : ℤ) → IsSign s → StaysWithin n (s *ℤ z) → StaysWithin n z
unsigned_within n s z sign is = elim sign [
  | inl e ↦
      let P : ℤ → Type 0 = λ u. StaysWithin n (u *ℤ z) in
      let h = subst P e is in
      let low = h.low in
      let high = h.high in
      record { low = omega (arith, ints); high = omega (arith, ints) }
  | inr e ↦
      let P : ℤ → Type 0 = λ u. StaysWithin n (u *ℤ z) in
      let h = subst P e is in
      let low = h.low in
      let high = h.high in
      record { low = omega (arith, ints); high = omega (arith, ints) }
]

pub near_turned : (q : Quarter) (m e : Vector) → IsQuarter q → IsNear (turned q m) (turned q e) → IsNear m e
near_turned q m e signs near =
    let f = signed_part (pos near.q) (pos near.p) q.right m.x e.x in
    let g = signed_part (pos near.q) (pos near.p) q.up m.y e.y in
    let in_x = near.in_x in
    let in_y = near.in_y in
    record {
      p = near.p;
      q = near.q;
      positive = near.positive;
      in_x = unsigned_within near.q q.right _ signs.right (rw f at in_x);
      in_y = unsigned_within near.q q.up _ signs.up (rw g at in_y);
    }

-- the product of two signs
two_signs : (s t : ℤ) → IsSign s → IsSign t → IsSign (s *ℤ t)
two_signs s t u v = elim u [
  | inl e ↦ elim v [ inl f ↦ rw (e, f) (inl (omega (arith, ints))) | inr f ↦ rw (e, f) (inr (omega (arith, ints))) ]
  | inr e ↦ elim v [ inl f ↦ rw (e, f) (inr (omega (arith, ints))) | inr f ↦ rw (e, f) (inl (omega (arith, ints))) ]
]

-- where the place is from one border, or from the other where the turn is a mirror
abbrev seen_at : ℤ → ℤ → ℤ → ℤ
seen_at (pos s) w a = a
seen_at (negsuc s) w a = w -ℤ a

turned_across : (s w a x : ℤ) → IsSign s → IsAcross w (a +ℤ x) → IsAcross w (seen_at s w a +ℤ s *ℤ x)
turned_across s w a x sign is =
    let low = is.0 in
    let high = is.1 in
    let P : ℤ → Type 0 = λ z. IsAcross w (seen_at z w a +ℤ z *ℤ x) in
    elim sign [
      | inl e ↦ subst P (sym e) (omega (arith, ints), omega (arith, ints))
      | inr e ↦ subst P (sym e) (omega (arith, ints), omega (arith, ints))
    ]

turned_here : (s w a : ℤ) → IsSign s → IsAcross w a → IsAcross w (seen_at s w a)
turned_here s w a sign is =
    let low = is.0 in
    let high = is.1 in
    let P : ℤ → Type 0 = λ z. IsAcross w (seen_at z w a) in
    elim sign [
      | inl e ↦ subst P (sym e) (omega (arith, ints), omega (arith, ints))
      | inr e ↦ subst P (sym e) (omega (arith, ints), omega (arith, ints))
    ]

-- two points of a strip that goes into a quarter
pub near_in_strip : (q : Quarter) (d m e : Vector) (a : ℤ) → IsQuarter q → pos 0 ≤ℤ (q.right *ℤ d.x) → pos 0 ≤ℤ (q.up *ℤ d.y) → pos 0 <ℤ far_of q d
    → negsuc 0 ≤ℤ (q.right *ℤ m.x) → negsuc 0 ≤ℤ (q.up *ℤ m.y)
    → (q.right *ℤ m.x) ≤ℤ (q.right *ℤ e.x +ℤ pos 1) → (q.up *ℤ m.y) ≤ℤ (q.up *ℤ e.y +ℤ pos 1)
    → IsAcross (far_of q d) a → IsAcross (far_of q d) (a +ℤ cross_of d m) → IsAcross (far_of q d) (a +ℤ cross_of d e) → IsNear m e
near_in_strip q d m e a signs right up some m_right m_up e_right e_up here middle end =
    let s : ℤ = q.right *ℤ q.up in
    let sign = two_signs q.right q.up signs.right signs.up in
    let w : ℤ = far_of q d in
    let f = cross_turned q d m in
    let g = cross_turned q d e in
    near_turned q m e signs
    (near_in_quarter (turned q d) (turned q m) (turned q e) (seen_at s w a) right up some m_right m_up e_right e_up
    (turned_here s w a sign here)
    (rw f (turned_across s w a (cross_of d m) sign middle))
    (rw g (turned_across s w a (cross_of d e) sign end)))
