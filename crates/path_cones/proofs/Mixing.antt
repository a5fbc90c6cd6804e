-- Half-lines near a point, and points near a half-line: what lies between two of them is near too.
use Rattle.std.proofs.Common.{◌≡◌, ℕ, zero, suc, ◌+◌, ◌*◌, ◌≤◌, ℤ, pos, ◌+ℤ◌, ◌-ℤ◌, ◌*ℤ◌, ◌∙◌, subst, sym, ap, arith}
use Rattle.std.proofs.lemmas.Int.{ints}
use Rattle.path_cones.specs.Straight.{StaysWithin, IsNear}
use Rattle.path_cones.specs.Inner.Cones.{IsSmall}
use Rattle.path_cones.specs.declared.vector.Vector.{Vector}
use Rattle.path_cones.proofs.Nearness.{small_is_near, small_multiple, no_part}
use Rattle.path_cones.proofs.Signs.{product_at_least}
use Rattle.pt_core.proofs.Terms.{same_value}
use Rattle.pt_core.proofs.Terms.Term.{num, plus, less, times}

-- l + m times z is l times a and m times b: z lies between the two
abbrev pub IsMix : ℕ → ℕ → ℤ → ℤ → ℤ → Type 0
IsMix l m a b z = pos (l + m) *ℤ z ≡ pos l *ℤ a +ℤ pos m *ℤ b

-- the end lies between two ends
pub record IsMixed (l m : ℕ) (one other end : Vector) : Type 0 where
  pub some : 1 ≤ l + m
  pub x : IsMix l m one.x other.x end.x
  pub y : IsMix l m one.y other.y end.y

room_above : (k q : ℕ) (z : ℤ) → pos k *ℤ (pos q -ℤ z) ≡ pos (k * q) -ℤ pos k *ℤ z
room_above k q z = same_value (times (num (pos k)) (less (num (pos q)) (num z)))
    (less (num (pos (k * q))) (times (num (pos k)) (num z))) (omega arith)

room_below : (k q : ℕ) (z : ℤ) → pos k *ℤ (pos q +ℤ z) ≡ pos (k * q) +ℤ pos k *ℤ z
room_below k q z = same_value (times (num (pos k)) (plus (num (pos q)) (num z)))
    (plus (num (pos (k * q))) (times (num (pos k)) (num z))) (omega arith)

pub times_within : (k q : ℕ) (z : ℤ) → StaysWithin q z → StaysWithin (k * q) (pos k *ℤ z)
times_within k q z w =
    let a = product_at_least (pos k) (pos q -ℤ z) (omega (arith, ints)) (omega (arith, ints, w.high)) in
    let b = product_at_least (pos k) (pos q +ℤ z) (omega (arith, ints)) (omega (arith, ints, w.low)) in
    let e = room_above k q z in
    let f = room_below k q z in
    record { low = omega (arith, ints); high = omega (arith, ints) }

plus_within : (q r : ℕ) (y z : ℤ) → StaysWithin q y → StaysWithin r z → StaysWithin (q + r) (y +ℤ z)
plus_within q r y z v w = record { low = omega (arith, ints, v.low, w.low); high = omega (arith, ints, v.high, w.high) }

both_within : (a b q r : ℕ) (y z : ℤ) → StaysWithin q y → StaysWithin r z → StaysWithin (a * q + b * r) (pos a *ℤ y +ℤ pos b *ℤ z)
both_within a b q r y z v w = plus_within (a * q) (b * r) (pos a *ℤ y) (pos b *ℤ z) (times_within a q y v) (times_within b r z w)

-- ---- between two half-lines

end_sum : (l m p q r s : ℕ) (d e f g : ℤ) → IsMix l m e f g
    → pos (l * r) *ℤ (pos q *ℤ d -ℤ pos p *ℤ e) +ℤ pos (m * p) *ℤ (pos s *ℤ d -ℤ pos r *ℤ f)
    ≡ pos (l * r * q + m * p * s) *ℤ d -ℤ pos (p * r * (l + m)) *ℤ g
end_sum l m p q r s d e f g is =
    let split : pos (p * r * (l + m)) *ℤ g ≡ pos (p * r) *ℤ (pos (l + m) *ℤ g) =
    same_value (times (num (pos (p * r * (l + m)))) (num g)) (times (num (pos (p * r))) (times (num (pos (l + m))) (num g))) (omega arith) in
    let P : ℤ → Type 0 = λ z. pos (l * r) *ℤ (pos q *ℤ d -ℤ pos p *ℤ e) +ℤ pos (m * p) *ℤ (pos s *ℤ d -ℤ pos r *ℤ f)
    ≡ pos (l * r * q + m * p * s) *ℤ d -ℤ z in
    let sum : P (pos (p * r) *ℤ (pos l *ℤ e +ℤ pos m *ℤ f)) = same_value
    (plus (times (num (pos (l * r))) (less (times (num (pos q)) (num d)) (times (num (pos p)) (num e))))
    (times (num (pos (m * p))) (less (times (num (pos s)) (num d)) (times (num (pos r)) (num f)))))
    (less (times (num (pos (l * r * q + m * p * s))) (num d))
    (times (num (pos (p * r))) (plus (times (num (pos l)) (num e)) (times (num (pos m)) (num f)))))
    (omega arith) in
    subst P (sym (split ∙ ap (λ z. pos (p * r) *ℤ z) is)) sum

-- a point near the start of a half-line, in the words of one that's near it
near_start : (q : ℕ) (d e : Vector) → 1 ≤ q
    → StaysWithin q (pos q *ℤ d.x -ℤ pos 0 *ℤ e.x) → StaysWithin q (pos q *ℤ d.y -ℤ pos 0 *ℤ e.y) → IsSmall d
near_start q d e h wx wy = record {
  x = small_multiple q d.x h (no_part q d.x e.x wx);
  y = small_multiple q d.y h (no_part q d.y e.y wy);
}

some_product : (l m p r q s : ℕ) → 1 ≤ l + m → 1 ≤ q → 1 ≤ s
    → 1 ≤ l * suc r * q + m * suc p * s
some_product zero zero p r q s h i j = absurd (omega arith)
some_product (suc l) m p r (suc q) s h i j = omega arith
some_product zero (suc m) p r q (suc s) h i j = omega arith
some_product (suc l) m p r zero s h i j = absurd (omega arith)
some_product zero (suc m) p r q zero h i j = absurd (omega arith)

near_both : (l m p q r s : ℕ) (d e f g : Vector) → IsMixed l m e f g → 1 ≤ q → 1 ≤ s
    → StaysWithin q (pos q *ℤ d.x -ℤ pos p *ℤ e.x) → StaysWithin q (pos q *ℤ d.y -ℤ pos p *ℤ e.y)
    → StaysWithin s (pos s *ℤ d.x -ℤ pos r *ℤ f.x) → StaysWithin s (pos s *ℤ d.y -ℤ pos r *ℤ f.y)
    → IsNear d g
near_both l m zero q r s d e f g mix h i ex ey fx fy = small_is_near d g (near_start q d e h ex ey)
near_both l m (suc p) q zero s d e f g mix h i ex ey fx fy = small_is_near d g (near_start s d f i fx fy)
near_both l m (suc p) q (suc r) s d e f g mix h i ex ey fx fy = record {
  p = suc p * suc r * (l + m);
  q = l * suc r * q + m * suc p * s;
  positive = some_product l m p r q s mix.some h i;
  in_x = subst (StaysWithin (l * suc r * q + m * suc p * s)) (end_sum l m (suc p) q (suc r) s d.x e.x f.x g.x mix.x)
      (both_within (l * suc r) (m * suc p) q s _ _ ex fx);
  in_y = subst (StaysWithin (l * suc r * q + m * suc p * s)) (end_sum l m (suc p) q (suc r) s d.y e.y f.y g.y mix.y)
      (both_within (l * suc r) (m * suc p) q s _ _ ey fy);
}

-- a point near two half-lines is near each one between them
pub near_end_between : (l m : ℕ) (d e f g : Vector) → IsMixed l m e f g → IsNear d e → IsNear d f → IsNear d g
near_end_between l m d e f g mix one other =
    near_both l m one.p one.q other.p other.q d e f g mix one.positive other.positive one.in_x one.in_y other.in_x other.in_y

-- ---- between two points

middle_sum : (l m p q r s : ℕ) (d e f g : ℤ) → IsMix l m d e f
    → pos (l * s) *ℤ (pos q *ℤ d -ℤ pos p *ℤ g) +ℤ pos (m * q) *ℤ (pos s *ℤ e -ℤ pos r *ℤ g)
    ≡ pos (q * s * (l + m)) *ℤ f -ℤ pos (l * s * p + m * q * r) *ℤ g
middle_sum l m p q r s d e f g is =
    let split : pos (q * s * (l + m)) *ℤ f ≡ pos (q * s) *ℤ (pos (l + m) *ℤ f) =
    same_value (times (num (pos (q * s * (l + m)))) (num f)) (times (num (pos (q * s))) (times (num (pos (l + m))) (num f))) (omega arith) in
    let P : ℤ → Type 0 = λ z. pos (l * s) *ℤ (pos q *ℤ d -ℤ pos p *ℤ g) +ℤ pos (m * q) *ℤ (pos s *ℤ e -ℤ pos r *ℤ g)
    ≡ z -ℤ pos (l * s * p + m * q * r) *ℤ g in
    let sum : P (pos (q * s) *ℤ (pos l *ℤ d +ℤ pos m *ℤ e)) = same_value
    (plus (times (num (pos (l * s))) (less (times (num (pos q)) (num d)) (times (num (pos p)) (num g))))
    (times (num (pos (m * q))) (less (times (num (pos s)) (num e)) (times (num (pos r)) (num g)))))
    (less (times (num (pos (q * s))) (plus (times (num (pos l)) (num d)) (times (num (pos m)) (num e))))
    (times (num (pos (l * s * p + m * q * r))) (num g)))
    (omega arith) in
    subst P (sym (split ∙ ap (λ z. pos (q * s) *ℤ z) is)) sum

same_room : (l m q s : ℕ) → l * s * q + m * q * s ≡ q * s * (l + m)
same_room l m q s = omega arith

some_parts : (l m q s : ℕ) → 1 ≤ l + m → 1 ≤ q → 1 ≤ s → 1 ≤ q * s * (l + m)
some_parts l m zero s h i j = absurd (omega arith)
some_parts l m (suc q) zero h i j = absurd (omega arith)
some_parts zero zero (suc q) (suc s) h i j = absurd (omega arith)
some_parts (suc l) m (suc q) (suc s) h i j = omega arith
some_parts zero (suc m) (suc q) (suc s) h i j = omega arith

-- of two points near a half-line, each point between them is near it
pub near_middle_between : (l m : ℕ) (d e f g : Vector) → IsMixed l m d e f → IsNear d g → IsNear e g → IsNear f g
near_middle_between l m d e f g mix one other =
    let p = one.p in
    let q = one.q in
    let r = other.p in
    let s = other.q in
    let P : ℕ → ℤ → Type 0 = λ n z. StaysWithin n z in
    let two = λ (a b : ℤ) (v : StaysWithin q a) (w : StaysWithin s b).
    subst (λ (n : ℕ). StaysWithin n (pos (l * s) *ℤ a +ℤ pos (m * q) *ℤ b)) (same_room l m q s) (both_within (l * s) (m * q) q s a b v w) in
    record {
      p = l * s * p + m * q * r;
      q = q * s * (l + m);
      positive = some_parts l m q s mix.some one.positive other.positive;
      in_x = subst (StaysWithin (q * s * (l + m))) (middle_sum l m p q r s d.x e.x f.x g.x mix.x) (two _ _ one.in_x other.in_x);
      in_y = subst (StaysWithin (q * s * (l + m))) (middle_sum l m p q r s d.y e.y f.y g.y mix.y) (two _ _ one.in_y other.in_y);
    }
