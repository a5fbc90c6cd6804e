-- Two numbers that are together half of two others, and near the half-line through these.
use Rattle.std.proofs.Common.{◌≡◌, ◌⊎◌, inl, inr, ℕ, zero, suc, ◌+◌, ◌≤◌, ℤ, pos, negsuc, neg_ℤ, ◌+ℤ◌, ◌-ℤ◌, ◌*ℤ◌, ◌≤ℤ◌, ◌<ℤ◌, refl, sym, ◌∙◌, ap, subst, arith}
use Rattle.std.proofs.lemmas.Int.{ints}
use Rattle.std.specs.Prelude.{unsigned_abs}
use Rattle.pt_core.proofs.Terms.{same_value}
use Rattle.pt_core.proofs.Terms.Term.{num, plus, less, times, opposite}
use Rattle.straight_paths.specs.Straight.{StaysWithin}
use Rattle.path_cones.proofs.Signs.{product_at_least, factor_at_least, factor_positive}

-- half of a number that isn't negative, rounded down
pub record IsRoundedHalf (n h : ℤ) : Type 0 where
  pub low : (h +ℤ h) ≤ℤ n
  pub high : n ≤ℤ ((h +ℤ h) +ℤ pos 1)
  pub least : pos 0 ≤ℤ h
  pub most : h ≤ℤ n

halves : (n : ℕ) → (h : ℕ) × ((n ≡ h + h) ⊎ (n ≡ suc (h + h)))
halves zero = (0, inl refl)
halves (suc n) =
    let before = halves n in
    let h = before.0 in
    elim before.1 [
      | inl even ↦ (h, inr (omega arith))
      | inr odd ↦ (suc h, inl (omega arith))
    ]

half_is : (n h : ℕ) → (n ≡ h + h) ⊎ (n ≡ suc (h + h)) → IsRoundedHalf (pos n) (pos h)
half_is n h is = elim is [
  | inl e ↦ record { low = omega (arith, ints); high = omega (arith, ints); least = omega (arith, ints); most = omega (arith, ints) }
  | inr e ↦ record { low = omega (arith, ints); high = omega (arith, ints); least = omega (arith, ints); most = omega (arith, ints) }
]

pub half : (n : ℤ) → pos 0 ≤ℤ n → (h : ℤ) × IsRoundedHalf n h
half (pos n) some = let h = halves n in (pos h.0, half_is n h.0 h.1)
half (negsuc n) some = absurd (omega (arith, ints))

-- the cross product of two ways, where the second is near the first one's half-line
cross_high : (p q a b d e : ℤ) → ((a +ℤ b) -ℤ (a *ℤ e -ℤ b *ℤ d)) *ℤ q
    ≡ a *ℤ (q -ℤ (q *ℤ e -ℤ p *ℤ b)) +ℤ b *ℤ (q +ℤ (q *ℤ d -ℤ p *ℤ a))
cross_high p q a b d e = same_value
    (times (less (plus (num a) (num b)) (less (times (num a) (num e)) (times (num b) (num d)))) (num q))
    (plus (times (num a) (less (num q) (less (times (num q) (num e)) (times (num p) (num b)))))
    (times (num b) (plus (num q) (less (times (num q) (num d)) (times (num p) (num a))))))
    (omega arith)

cross_low : (p q a b d e : ℤ) → ((a +ℤ b) +ℤ (a *ℤ e -ℤ b *ℤ d)) *ℤ q
    ≡ a *ℤ (q +ℤ (q *ℤ e -ℤ p *ℤ b)) +ℤ b *ℤ (q -ℤ (q *ℤ d -ℤ p *ℤ a))
cross_low p q a b d e = same_value
    (times (plus (plus (num a) (num b)) (less (times (num a) (num e)) (times (num b) (num d)))) (num q))
    (plus (times (num a) (plus (num q) (less (times (num q) (num e)) (times (num p) (num b)))))
    (times (num b) (less (num q) (less (times (num q) (num d)) (times (num p) (num a))))))
    (omega arith)

room_above : (q : ℕ) (z : ℤ) → StaysWithin q z → pos 0 ≤ℤ (pos q -ℤ z)
room_above q z w = let h = w.high in omega (arith, ints)

room_below : (q : ℕ) (z : ℤ) → StaysWithin q z → pos 0 ≤ℤ (pos q +ℤ z)
room_below q z w = let l = w.low in omega (arith, ints)

pub sum_at_least : (s t : ℤ) → pos 0 ≤ℤ s → pos 0 ≤ℤ t → pos 0 ≤ℤ (s +ℤ t)
sum_at_least s t h k = omega (arith, ints)

-- d and e across and up, where the end is a and b across and up
pub record IsNearBoth (a b d e : ℤ) : Type 0 where
  pub p : ℕ
  pub q : ℕ
  pub positive : 1 ≤ q
  pub in_x : StaysWithin q (pos q *ℤ d -ℤ pos p *ℤ a)
  pub in_y : StaysWithin q (pos q *ℤ e -ℤ pos p *ℤ b)

module _ (a b d e : ℤ) (some_a : pos 0 ≤ℤ a) (some_b : pos 0 ≤ℤ b) (near : IsNearBoth a b d e) where
  positive : pos 0 <ℤ pos near.q
  positive = omega (arith, ints, near.positive)

  pub below : pos 0 ≤ℤ ((a +ℤ b) -ℤ (a *ℤ e -ℤ b *ℤ d))
  below = factor_at_least ((a +ℤ b) -ℤ (a *ℤ e -ℤ b *ℤ d)) (pos near.q)
      (subst (λ (z : ℤ). pos 0 ≤ℤ z) (sym (cross_high (pos near.p) (pos near.q) a b d e))
      (sum_at_least _ _ (product_at_least a _ some_a (room_above near.q _ near.in_y)) (product_at_least b _ some_b (room_below near.q _ near.in_x))))
      positive

  pub above : pos 0 ≤ℤ ((a +ℤ b) +ℤ (a *ℤ e -ℤ b *ℤ d))
  above = factor_at_least ((a +ℤ b) +ℤ (a *ℤ e -ℤ b *ℤ d)) (pos near.q)
      (subst (λ (z : ℤ). pos 0 ≤ℤ z) (sym (cross_low (pos near.p) (pos near.q) a b d e))
      (sum_at_least _ _ (product_at_least a _ some_a (room_below near.q _ near.in_y)) (product_at_least b _ some_b (room_above near.q _ near.in_x))))
      positive

-- twice the cross product, by how far d and e are beyond the half
double_cross : (a b d e : ℤ) → pos 2 *ℤ (a *ℤ e -ℤ b *ℤ d) ≡ a *ℤ (pos 2 *ℤ e -ℤ b) -ℤ b *ℤ (pos 2 *ℤ d -ℤ a)
double_cross a b d e = same_value
    (times (num (pos 2)) (less (times (num a) (num e)) (times (num b) (num d))))
    (less (times (num a) (less (times (num (pos 2)) (num e)) (num b))) (times (num b) (less (times (num (pos 2)) (num d)) (num a))))
    (omega arith)

-- the same, where these come to -ε together
by_right : (a b w ε : ℤ) → a *ℤ (neg_ℤ ε -ℤ w) -ℤ b *ℤ w ≡ neg_ℤ (ε *ℤ a) -ℤ (a +ℤ b) *ℤ w
by_right a b w ε = same_value
    (less (times (num a) (less (opposite (num ε)) (num w))) (times (num b) (num w)))
    (less (opposite (times (num ε) (num a))) (times (plus (num a) (num b)) (num w)))
    (omega arith)

apart : (h w : ℤ) → (pos 2 -ℤ w) *ℤ h ≡ pos 2 *ℤ h -ℤ h *ℤ w
apart h w = same_value (times (less (num (pos 2)) (num w)) (num h)) (less (times (num (pos 2)) (num h)) (times (num h) (num w))) (omega arith)

apart_below : (h w : ℤ) → (w +ℤ pos 3) *ℤ h ≡ pos 3 *ℤ h +ℤ h *ℤ w
apart_below h w = same_value (times (plus (num w) (num (pos 3))) (num h)) (plus (times (num (pos 3)) (num h)) (times (num h) (num w))) (omega arith)

-- h times w is at most 2 h in size, but for a number below h: then so is w, as 2 is
within_two : (h w s : ℤ) → pos 0 <ℤ h → pos 0 ≤ℤ s → s <ℤ h → (s +ℤ h *ℤ w) ≤ℤ (pos 2 *ℤ h) → neg_ℤ (pos 2 *ℤ h) ≤ℤ (s +ℤ h *ℤ w)
    → unsigned_abs w ≤ 2
within_two h w s some least most high low =
    let o1 = apart h w in
    let o2 = apart_below h w in
    let up : pos 0 ≤ℤ ((pos 2 -ℤ w) *ℤ h) = omega (arith, ints, o1) in
    let down : pos 0 <ℤ ((w +ℤ pos 3) *ℤ h) = omega (arith, ints, o2) in
    let f = factor_at_least (pos 2 -ℤ w) h up some in
    let g = factor_positive (w +ℤ pos 3) h down (omega (arith, ints)) in
    omega (arith, ints)

between_both : (h s c m : ℤ) → pos 2 *ℤ c ≡ neg_ℤ s -ℤ m → pos 0 ≤ℤ (h -ℤ c) → pos 0 ≤ℤ (h +ℤ c)
    → ((s +ℤ m) ≤ℤ (pos 2 *ℤ h)) × (neg_ℤ (pos 2 *ℤ h) ≤ℤ (s +ℤ m))
between_both h s c m e f g = (omega (arith, ints), omega (arith, ints))

share_least : (ε a : ℤ) → pos 0 ≤ℤ ε → pos 0 ≤ℤ a → pos 0 ≤ℤ (ε *ℤ a)
share_least ε a h k = product_at_least ε a h k

share_most : (ε a h : ℤ) → pos 0 ≤ℤ ε → ε ≤ℤ pos 1 → pos 0 ≤ℤ a → a <ℤ h → (ε *ℤ a) <ℤ h
share_most (pos zero) a h f g k l = omega (arith, ints)
share_most (pos (suc zero)) a h f g k l = omega (arith, ints)
share_most (pos (suc (suc n))) a h f g k l = absurd (omega (arith, ints))
share_most (negsuc n) a h f g k l = absurd (omega (arith, ints))

rest_of : (a b d e : ℤ) → pos 2 *ℤ e -ℤ b ≡ neg_ℤ ((a +ℤ b) -ℤ pos 2 *ℤ (d +ℤ e)) -ℤ (pos 2 *ℤ d -ℤ a)
rest_of a b d e = omega (arith, ints)

-- where d and e are half of a and b together, d is near half of a
pub across : (a b d e : ℤ) → pos 0 ≤ℤ a → pos 0 <ℤ b → IsNearBoth a b d e → IsRoundedHalf (a +ℤ b) (d +ℤ e) → unsigned_abs (pos 2 *ℤ d -ℤ a) ≤ 2
across a b d e some_a some_b near half =
    let w : ℤ = pos 2 *ℤ d -ℤ a in
    let ε : ℤ = (a +ℤ b) -ℤ pos 2 *ℤ (d +ℤ e) in
    let low = half.low in
    let high = half.high in
    let εl : pos 0 ≤ℤ ε = omega (arith, ints) in
    let εh : ε ≤ℤ pos 1 = omega (arith, ints) in
    let under : a <ℤ (a +ℤ b) = omega (arith, ints) in
    let positive : pos 0 <ℤ (a +ℤ b) = omega (arith, ints) in
    let twice : pos 2 *ℤ (a *ℤ e -ℤ b *ℤ d) ≡ neg_ℤ (ε *ℤ a) -ℤ (a +ℤ b) *ℤ w
    = double_cross a b d e ∙ ap (λ v. a *ℤ v -ℤ b *ℤ w) (rest_of a b d e) ∙ by_right a b w ε in
    let some_b' : pos 0 ≤ℤ b = omega (arith, ints) in
    let both = between_both (a +ℤ b) (ε *ℤ a) (a *ℤ e -ℤ b *ℤ d) ((a +ℤ b) *ℤ w) twice
    (below a b d e some_a some_b' near) (above a b d e some_a some_b' near) in
    within_two (a +ℤ b) w (ε *ℤ a) positive (share_least ε a εl some_a) (share_most ε a (a +ℤ b) εl εh some_a under) both.0 both.1

pub swapped : (a b d e : ℤ) → IsNearBoth a b d e → IsNearBoth b a e d
swapped a b d e near = record { p = near.p; q = near.q; positive = near.positive; in_x = near.in_y; in_y = near.in_x }

pub swapped_half : (a b d e : ℤ) → IsRoundedHalf (a +ℤ b) (d +ℤ e) → IsRoundedHalf (b +ℤ a) (e +ℤ d)
swapped_half a b d e half =
    let l = half.low in let h = half.high in let m = half.least in let n = half.most in
    record { low = omega (arith, ints); high = omega (arith, ints); least = omega (arith, ints); most = omega (arith, ints) }

flat_room : (q : ℕ) (e : ℤ) → (((pos 0 +ℤ pos 1) -ℤ e) *ℤ pos q ≡ pos q -ℤ pos q *ℤ e) × (((pos 0 +ℤ pos 1) +ℤ e) *ℤ pos q ≡ pos q +ℤ pos q *ℤ e)
flat_room q e = (
  same_value (times (less (num (pos 1)) (num e)) (num (pos q))) (less (num (pos q)) (times (num (pos q)) (num e))) (omega arith),
  same_value (times (plus (num (pos 1)) (num e)) (num (pos q))) (plus (num (pos q)) (times (num (pos q)) (num e))) (omega arith),
)

-- where the end is neither up nor down, the place is within 1 up and down
pub flat : (p q : ℕ) (b e : ℤ) → 1 ≤ q → b ≡ pos 0 → StaysWithin q (pos q *ℤ e -ℤ pos p *ℤ b) → unsigned_abs e ≤ 1
flat p q b e some is w =
    let P : ℤ → Type 0 = λ z. StaysWithin q (pos q *ℤ e -ℤ pos p *ℤ z) in
    let v = subst P is w in
    let l = v.low in
    let h = v.high in
    let room = flat_room q e in
    let r0 = room.0 in
    let r1 = room.1 in
    let positive : pos 0 <ℤ pos q = omega (arith, ints) in
    let up : pos 0 ≤ℤ (((pos 0 +ℤ pos 1) -ℤ e) *ℤ pos q) = omega (arith, ints, r0) in
    let down : pos 0 ≤ℤ (((pos 0 +ℤ pos 1) +ℤ e) *ℤ pos q) = omega (arith, ints, r1) in
    let f = factor_at_least ((pos 0 +ℤ pos 1) -ℤ e) (pos q) up positive in
    let g = factor_at_least ((pos 0 +ℤ pos 1) +ℤ e) (pos q) down positive in
    omega (arith, ints)

pub above_zero : (u v : ℤ) → (u +ℤ pos 1) ≤ℤ v → pos 0 <ℤ (v -ℤ u)
above_zero u v h = omega (arith, ints)

pub not_below : (u v : ℤ) → u ≤ℤ v → pos 0 ≤ℤ (v -ℤ u)
not_below u v h = omega (arith, ints)
