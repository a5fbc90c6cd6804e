-- Parts of the way between coordinates.
use Rattle.std.proofs.Common.{◌≡◌, ℕ, zero, suc, ◌+◌, ◌*◌, ◌/◌, ◌≤◌, ◌^◌, ℤ, pos, negsuc, ◌+ℤ◌, ◌-ℤ◌, ◌*ℤ◌, ◌≤ℤ◌, neg_ℤ, unsigned_abs, w32, w64, to_z, of_z, refl, ap, ◌∙◌, arith}
use Rattle.std.proofs.lemmas.Int.{ints, to_z-of_z, by_lt_z}
use Rattle.std.proofs.lemmas.Nat.{mul-le}
use Rattle.std.proofs.Math.IntN.{*ℤ-negsuc}
use Rattle.std.specs.Int.{int_div_euclid}
use Rattle.std.specs.Int.RustNames.{FitsSigned}
use Rattle.pt_core.specs.Floor.{floor_of}
use Rattle.corner_smooth.specs.Corner.{IsInReach, part_of}
use Rattle.pt_core.proofs.Sizes.{back, divided, product_most}

-- no more than the whole way forth
floor_forth : (n m : ℕ) → n ≤ 131072 → n * m / 131072 ≤ m
floor_forth n m few = omega (arith, mul-le n m 131072 m few (omega arith))

-- nor back
floor_back : (k m : ℕ) → k ≤ 131072 * m → neg_ℤ (pos m) ≤ℤ floor_of (neg_ℤ (pos k)) 131072
floor_back zero m most = omega (arith, ints)
floor_back (suc k) m most = omega (arith, ints)

floor_not_above : (k : ℕ) → floor_of (neg_ℤ (pos k)) 131072 ≤ℤ pos 0
floor_not_above zero = omega (arith, ints)
floor_not_above (suc k) = omega (arith, ints)

-- what a quotient of 64 bits is
pub share_is : (n : ℕ) (f w r : ℤ) → n ≤ 131072 → unsigned_abs w ≤ 2 ^ 25 → f ≡ pos n → FitsSigned w64 r
    → r ≡ int_div_euclid (to_z w64 (of_z w64 (to_z w64 (of_z w64 f) *ℤ to_z w64 (of_z w64 w)))) (pos 131072)
    → to_z w64 (of_z w64 r) ≡ floor_of (pos n *ℤ w) 131072
share_is n f w r few near e fits is =
    let most = product_most (pos n) w 131072 (2 ^ 25) few near in
    let inner : to_z w64 (of_z w64 (to_z w64 (of_z w64 f) *ℤ to_z w64 (of_z w64 w))) ≡ pos n *ℤ w =
    rw (e, back (pos n) (omega arith), back w (omega arith), back (pos n *ℤ w) (omega arith)) refl in
    to_z-of_z w64 r fits ∙ is ∙ ap (λ v. int_div_euclid v (pos 131072)) inner ∙ divided (pos n *ℤ w) 131072

share_forth : (n : ℕ) (w : ℤ) → n ≤ 131072 → pos 0 ≤ℤ w
    → (pos 0 ≤ℤ floor_of (pos n *ℤ w) 131072) × (floor_of (pos n *ℤ w) 131072 ≤ℤ w)
share_forth n (pos m) few forth =
    let most = floor_forth n m few in
    (omega (arith, ints), omega (arith, ints))
share_forth n (negsuc m) few forth = absurd (omega (arith, ints))

share_back : (n : ℕ) (w : ℤ) → n ≤ 131072 → w ≤ℤ pos 0
    → (w ≤ℤ floor_of (pos n *ℤ w) 131072) × (floor_of (pos n *ℤ w) 131072 ≤ℤ pos 0)
share_back n (pos zero) few back = (omega (arith, ints, few), omega (arith, ints))
share_back n (pos (suc m)) few back = absurd (omega (arith, ints))
share_back n (negsuc m) few back =
    rw (*ℤ-negsuc (pos n) m)
    (floor_back (n * suc m) (suc m) (mul-le n (suc m) 131072 (suc m) few (omega arith)), floor_not_above (n * suc m))

pub share_most : (n : ℕ) (w : ℤ) → n ≤ 131072 → unsigned_abs w ≤ 2 ^ 25 → unsigned_abs (floor_of (pos n *ℤ w) 131072) ≤ 2 ^ 25
share_most n (pos m) few near =
    let share = share_forth n (pos m) few (omega (arith, ints)) in
    omega (arith, ints)
share_most n (negsuc m) few near =
    let share = share_back n (negsuc m) few (omega (arith, ints)) in
    omega (arith, ints)

-- a share of the way between two coordinates leads to one between them
reach_by : (from to s : ℤ) → IsInReach from → IsInReach to → (pos 0 ≤ℤ s) × (s ≤ℤ (to -ℤ from)) → IsInReach (from +ℤ s)
reach_by from to s f t share =
    let from_low = f.low in
    let to_high = t.high in
    record { low = omega (arith, ints); high = omega (arith, ints) }

reach_back : (from to s : ℤ) → IsInReach from → IsInReach to → ((to -ℤ from) ≤ℤ s) × (s ≤ℤ pos 0) → IsInReach (from +ℤ s)
reach_back from to s f t share =
    let from_high = f.high in
    let to_low = t.low in
    record { low = omega (arith, ints); high = omega (arith, ints) }

pub part_reach : (al : ℕ) (from to : ℤ) → al ≤ 65536 → IsInReach from → IsInReach to → IsInReach (part_of al from to)
part_reach al from to few f t =
    by_lt_z (to -ℤ from) (pos 0)
    (λ back. reach_back from to _ f t (share_back (65536 + al) (to -ℤ from) (omega arith) (omega (arith, ints))))
    (λ forth. reach_by from to _ f t (share_forth (65536 + al) (to -ℤ from) (omega arith) forth))

-- the coordinate to which a share of the way leads
pub part_is : (al : ℕ) (from to f d s : ℤ) → IsInReach from → f ≡ to_z w32 (of_z w32 from) → d ≡ to -ℤ from
    → unsigned_abs d ≤ 2 ^ 25 → unsigned_abs s ≤ 2 ^ 25 → s ≡ floor_of (pos (65536 + al) *ℤ to_z w64 (of_z w64 d)) 131072
    → to_z w32 (of_z w32 (to_z w64 (of_z w64 (to_z w64 (of_z w64 f) +ℤ to_z w64 (of_z w64 s))))) ≡ part_of al from to
part_is al from to f d s reach ef ed near small es =
    let low = reach.low in
    let high = reach.high in
    let sum : to_z w32 (of_z w32 (to_z w64 (of_z w64 (to_z w64 (of_z w64 f) +ℤ to_z w64 (of_z w64 s))))) ≡ from +ℤ s = omega (arith, ints) in
    sum ∙ ap (λ v. from +ℤ v) (es ∙ ap (λ v. floor_of (pos (65536 + al) *ℤ v) 131072) (back d (omega arith) ∙ ed))
