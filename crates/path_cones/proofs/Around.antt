-- The cone around one way holds exactly the half-lines that come near its end.
use Rattle.std.proofs.Common.{◌≡◌, zero, suc, ◌≤◌, ◌⊎◌, inl, inr, ℤ, pos, negsuc, ◌+ℤ◌, ◌-ℤ◌, ◌*ℤ◌, neg_ℤ, ◌≤ℤ◌, ◌<ℤ◌, unsigned_abs, refl, arith}
use Rattle.std.proofs.lemmas.Int.{ints}
use Rattle.std.proofs.lemmas.Bool.{cases_lt}
use Rattle.path_cones.specs.Cones.{cross_of}
use Rattle.path_cones.specs.Inner.Cones.{lead_of, low_of, high_of, IsInside, IsSmall}
use Rattle.path_cones.specs.declared.vector.Vector.{Vector}
use Rattle.pt_core.proofs.Terms.{same_value}
use Rattle.pt_core.proofs.Terms.Term.{num, plus, less, times}

-- one step to a corner of a square: one coordinate changes by a, and the other of the corner is z
abbrev pub IsSigned : ℤ → ℤ → Type 0
IsSigned a z = ((a ≡ pos 1) × (pos 0 ≤ℤ z)) ⊎ ((a ≡ negsuc 0) × (z ≤ℤ pos 0))

-- two corners, by the four steps to them: what the proof needs to know of them
pub record IsCorners (x y a b c d : ℤ) : Type 0 where
  pub a_is : IsSigned a (y +ℤ b)
  pub b_is : IsSigned b (neg_ℤ (x +ℤ a))
  pub c_is : IsSigned c (neg_ℤ (y +ℤ d))
  pub d_is : IsSigned d (x +ℤ c)
  pub left : pos 0 <ℤ (x *ℤ (d -ℤ b) +ℤ y *ℤ (a -ℤ c) +ℤ (a *ℤ d -ℤ b *ℤ c))
  pub after_low : pos 0 <ℤ (a *ℤ y -ℤ b *ℤ x)
  pub before_high : pos 0 <ℤ (x *ℤ d -ℤ y *ℤ c)

pub far_out : (d : Vector) → ¬ IsSmall d → (2 ≤ unsigned_abs d.x) ⊎ (2 ≤ unsigned_abs d.y)
far_out d far = elim (cases_lt 1 (unsigned_abs d.x)) [
  | inl h ↦ inl h
  | inr h ↦ elim (cases_lt 1 (unsigned_abs d.y)) [
    | inl k ↦ inr k
    | inr k ↦ absurd (far (record { x = h; y = k }))
  ]
]

pub corners : (x y : ℤ) → (2 ≤ unsigned_abs x) ⊎ (2 ≤ unsigned_abs y)
    → IsCorners x y (lead_of y (neg_ℤ x)) (lead_of (neg_ℤ x) (neg_ℤ y)) (lead_of (neg_ℤ y) (neg_ℤ x)) (lead_of x (neg_ℤ y))
corners (pos (suc x)) (pos (suc y)) far = record {
  a_is = inl (refl, omega (arith, ints));
  b_is = inr (refl, omega (arith, ints));
  c_is = inr (refl, omega (arith, ints));
  d_is = inl (refl, omega (arith, ints));
  left = omega (arith, ints);
  after_low = omega (arith, ints);
  before_high = omega (arith, ints);
}
corners (pos (suc x)) (pos zero) far = record {
  a_is = inr (refl, omega (arith, ints));
  b_is = inr (refl, omega (arith, ints));
  c_is = inr (refl, omega (arith, ints));
  d_is = inl (refl, omega (arith, ints));
  left = omega (arith, ints);
  after_low = omega (arith, ints);
  before_high = omega (arith, ints);
}
corners (pos (suc x)) (negsuc y) far = record {
  a_is = inr (refl, omega (arith, ints));
  b_is = inr (refl, omega (arith, ints));
  c_is = inl (refl, omega (arith, ints));
  d_is = inl (refl, omega (arith, ints));
  left = omega (arith, ints);
  after_low = omega (arith, ints);
  before_high = omega (arith, ints);
}
corners (pos zero) (pos (suc y)) far = record {
  a_is = inl (refl, omega (arith, ints));
  b_is = inr (refl, omega (arith, ints));
  c_is = inr (refl, omega (arith, ints));
  d_is = inr (refl, omega (arith, ints));
  left = omega (arith, ints);
  after_low = omega (arith, ints);
  before_high = omega (arith, ints);
}
corners (pos zero) (pos zero) far = absurd (omega arith)
corners (pos zero) (negsuc y) far = record {
  a_is = inr (refl, omega (arith, ints));
  b_is = inl (refl, omega (arith, ints));
  c_is = inl (refl, omega (arith, ints));
  d_is = inl (refl, omega (arith, ints));
  left = omega (arith, ints);
  after_low = omega (arith, ints);
  before_high = omega (arith, ints);
}
corners (negsuc x) (pos (suc y)) far = record {
  a_is = inl (refl, omega (arith, ints));
  b_is = inl (refl, omega (arith, ints));
  c_is = inr (refl, omega (arith, ints));
  d_is = inr (refl, omega (arith, ints));
  left = omega (arith, ints);
  after_low = omega (arith, ints);
  before_high = omega (arith, ints);
}
corners (negsuc x) (pos zero) far = record {
  a_is = inl (refl, omega (arith, ints));
  b_is = inl (refl, omega (arith, ints));
  c_is = inl (refl, omega (arith, ints));
  d_is = inr (refl, omega (arith, ints));
  left = omega (arith, ints);
  after_low = omega (arith, ints);
  before_high = omega (arith, ints);
}
corners (negsuc x) (negsuc y) far = record {
  a_is = inr (refl, omega (arith, ints));
  b_is = inl (refl, omega (arith, ints));
  c_is = inl (refl, omega (arith, ints));
  d_is = inr (refl, omega (arith, ints));
  left = omega (arith, ints);
  after_low = omega (arith, ints);
  before_high = omega (arith, ints);
}

cross_corners : (x y a b c d : ℤ)
    → cross_of (record { x = x +ℤ a; y = y +ℤ b }) (record { x = x +ℤ c; y = y +ℤ d })
    ≡ x *ℤ (d -ℤ b) +ℤ y *ℤ (a -ℤ c) +ℤ (a *ℤ d -ℤ b *ℤ c)
cross_corners x y a b c d = same_value
    (less (times (plus (num x) (num a)) (plus (num y) (num d))) (times (plus (num y) (num b)) (plus (num x) (num c))))
    (plus (plus (times (num x) (less (num d) (num b))) (times (num y) (less (num a) (num c)))) (less (times (num a) (num d)) (times (num b) (num c))))
    (omega arith)

cross_low : (x y a b : ℤ)
    → cross_of (record { x = x +ℤ a; y = y +ℤ b }) (record { x = x; y = y }) ≡ a *ℤ y -ℤ b *ℤ x
cross_low x y a b = same_value
    (less (times (plus (num x) (num a)) (num y)) (times (plus (num y) (num b)) (num x)))
    (less (times (num a) (num y)) (times (num b) (num x)))
    (omega arith)

cross_high : (x y c d : ℤ)
    → cross_of (record { x = x; y = y }) (record { x = x +ℤ c; y = y +ℤ d }) ≡ x *ℤ d -ℤ y *ℤ c
cross_high x y c d = same_value
    (less (times (num x) (plus (num y) (num d))) (times (num y) (plus (num x) (num c))))
    (less (times (num x) (num d)) (times (num y) (num c)))
    (omega arith)

pub left_of_low : (d : Vector) → ¬ IsSmall d → pos 0 <ℤ cross_of (low_of d) (high_of d)
left_of_low d far = rw cross_corners (corners d.x d.y (far_out d far)).left

pub inside_own : (d : Vector) → ¬ IsSmall d → IsInside (low_of d) (high_of d) d
inside_own d far = record {
  after_low = rw cross_low (corners d.x d.y (far_out d far)).after_low;
  before_high = rw cross_high (corners d.x d.y (far_out d far)).before_high;
}
