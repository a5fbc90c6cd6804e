-- Whether a segment is possible can be told.
use Rattle.std.proofs.Common.{◌≡◌, ℕ, zero, suc, ◌+◌, ◌-◌, ◌<◌, ◌≤◌, ◌⊎◌, inl, inr, ℤ, pos, ◌≤ℤ◌, unsigned_abs, List, length, ap, subst, sym, arith}
use Rattle.std.proofs.lemmas.Int.{ints, by_lt_z}
use Rattle.std.proofs.lemmas.Bool.{cases_eq, cases_lt}
use Rattle.pt_core.specs.declared.point.Point.{Point}
use Rattle.pt_core.specs.declared.limits.TheConstants.{MOST_STEPS}
use Rattle.path_cones.specs.Straight.{vector_of, path_from, IsNear, IsPossible, IsStraight, Takes, TakesAllFour, east, north, west, south}
use Rattle.path_cones.specs.Cones.{cross_of}
use Rattle.path_cones.specs.Inner.Cones.{nowhere, low_of, high_of, IsBetween, IsSmall}
use Rattle.path_cones.specs.declared.vector.Vector.{Vector}
use Rattle.path_cones.proofs.Bounds.{same_vector}
use Rattle.path_cones.proofs.Nearness.{cone_is_near, small_is_near}

-- one of two, where the one comes to the other
by_other : {P Q : Type 0} → (P → Q) → (Q → P) → P ⊎ ¬ P → Q ⊎ ¬ Q
by_other to from (inl p) = inl (to p)
by_other to from (inr refused) = inr (λ q. refused (from q))

both : {P Q : Type 0} → P ⊎ ¬ P → Q ⊎ ¬ Q → (P × Q) ⊎ ¬ (P × Q)
both (inl p) (inl q) = inl (p, q)
both (inl p) (inr refused) = inr (λ h. refused h.1)
both (inr refused) q = inr (λ h. refused h.0)

where_ : {P Q : Type 0} → P ⊎ ¬ P → Q ⊎ ¬ Q → (P → Q) ⊎ ¬ (P → Q)
where_ (inr refused) q = inl (λ p. absurd (refused p))
where_ (inl p) (inl q) = inl (λ _. q)
where_ (inl p) (inr refused) = inr (λ h. refused (h p))

opposite : {P : Type 0} → P ⊎ ¬ P → (¬ P) ⊎ ¬ (¬ P)
opposite (inl p) = inr (λ h. h p)
opposite (inr refused) = inl refused

-- all numbers below n
all_below : (P : ℕ → Type 0) → ((k : ℕ) → P k ⊎ ¬ P k) → (n : ℕ) → ((k : ℕ) → k < n → P k) ⊎ ¬ ((k : ℕ) → k < n → P k)
all_below P told zero = inl (λ k below. absurd (omega arith))
all_below P told (suc n) =
    elim (all_below P told n) [
      | inr refused ↦ inr (λ h. refused (λ k below. h k (omega arith)))
      | inl before ↦ elim (told n) [
        | inr refused ↦ inr (λ h. refused (h n (omega arith)))
        | inl here ↦ inl (λ k below. elim (cases_eq k n) [ inl same ↦ subst P (sym same) here | inr other ↦ before k (omega arith) ])
      ]
    ]

-- some number below n
some_below : (P : ℕ → Type 0) → ((k : ℕ) → P k ⊎ ¬ P k) → (n : ℕ) → ((k : ℕ) × (k < n) × P k) ⊎ ¬ ((k : ℕ) × (k < n) × P k)
some_below P told zero = inr (λ h. let below = h.1 in omega arith)
some_below P told (suc n) =
    elim (told n) [
      | inl here ↦ inl (n, omega arith, here)
      | inr refused ↦ elim (some_below P told n) [
        | inl found ↦ inl (found.0, let below = found.1 in omega arith, found.2)
        | inr none ↦ inr (λ h. let below = h.1 in elim (cases_eq h.0 n) [ inl same ↦ refused (subst P same h.2) | inr other ↦ none (h.0, omega arith, h.2) ])
      ]
    ]

less : (m n : ℕ) → (m < n) ⊎ ¬ (m < n)
less m n = elim (cases_lt m n) [ inl h ↦ inl h | inr h ↦ inr (λ k. omega arith) ]

at_most : (m n : ℕ) → (m ≤ n) ⊎ ¬ (m ≤ n)
at_most m n = elim (cases_lt n m) [ inl h ↦ inr (λ k. omega arith) | inr h ↦ inl h ]

at_most_z : (a b : ℤ) → (a ≤ℤ b) ⊎ ¬ (a ≤ℤ b)
at_most_z a b = by_lt_z b a (λ l. inr (λ h. omega (arith, ints))) (λ h. inl h)

pub same_z : (a b : ℤ) → (a ≡ b) ⊎ ¬ (a ≡ b)
same_z a b = by_lt_z a b (λ l. inr (λ h. omega (arith, ints))) (λ h. by_lt_z b a (λ l. inr (λ k. omega (arith, ints))) (λ k. inl (omega (arith, ints))))

same_way : (a b : Vector) → (a ≡ b) ⊎ ¬ (a ≡ b)
same_way a b =
    by_other (λ h. same_vector a.x a.y b.x b.y h.0 h.1) (λ e. (ap (λ (w : Vector). w.x) e, ap (λ (w : Vector). w.y) e))
    (both (same_z a.x b.x) (same_z a.y b.y))

is_small : (way : Vector) → IsSmall way ⊎ ¬ IsSmall way
is_small way =
    by_other (λ h. record { x = h.0; y = h.1 }) (λ s. (s.x, s.y)) (both (at_most (unsigned_abs way.x) 1) (at_most (unsigned_abs way.y) 1))

is_between : (low high way : Vector) → IsBetween low high way ⊎ ¬ IsBetween low high way
is_between low high way =
    by_other (λ h. record { goes = h.0; after_low = h.1.0; before_high = h.1.1 }) (λ b. (b.goes, (b.after_low, b.before_high)))
    (both (opposite (same_way way nowhere)) (both (at_most_z (pos 0) (cross_of low way)) (at_most_z (pos 0) (cross_of way high))))

-- a way is near a half-line or not: its cone tells
is_near : (way e : Vector) → IsNear way e ⊎ ¬ IsNear way e
is_near way e =
    elim (is_small way) [
      | inl small ↦ inl (small_is_near way e small)
      | inr far ↦ let cone = cone_is_near way e far in by_other cone.0 cone.1 (is_between (low_of way) (high_of way) e)
    ]

takes : (path : ℕ → Point) (count : ℕ) (step : Vector) → Takes path count step ⊎ ¬ Takes path count step
takes path count step =
    by_other (λ h. record { k = h.0; early = h.1; taken = h.2 }) (λ t. (t.k, t.early, t.taken))
    (some_below (λ k. vector_of (path k) (path (suc k)) ≡ step) (λ k. same_way (vector_of (path k) (path (suc k))) step) count)

takes_all_four : (path : ℕ → Point) (count : ℕ) → TakesAllFour path count ⊎ ¬ TakesAllFour path count
takes_all_four path count =
    by_other (λ h. record { east = h.0.0; north = h.0.1; west = h.1.0; south = h.1.1 }) (λ t. ((t.east, t.north), (t.west, t.south)))
    (both (both (takes path count east) (takes path count north)) (both (takes path count west) (takes path count south)))

-- the points i, j and k of a straight subpath
abbrev IsNearAt : (ℕ → Point) → ℕ → ℕ → ℕ → Type 0
IsNearAt path i j k = i < j → j < k → IsNear (vector_of (path i) (path j)) (vector_of (path i) (path k))

are_near : (path : ℕ → Point) (n : ℕ) → ((i : ℕ) → i < n → (j : ℕ) → j < n → (k : ℕ) → k < n → IsNearAt path i j k) ⊎ ¬ ((i : ℕ) → i < n → (j : ℕ) → j < n → (k : ℕ) → k < n → IsNearAt path i j k)
are_near path n =
    all_below (λ i. (j : ℕ) → j < n → (k : ℕ) → k < n → IsNearAt path i j k) (λ i.
    all_below (λ j. (k : ℕ) → k < n → IsNearAt path i j k) (λ j.
    all_below (λ k. IsNearAt path i j k) (λ k. where_ (less i j) (where_ (less j k) (is_near (vector_of (path i) (path j)) (vector_of (path i) (path k))))) n) n) n

is_straight : (path : ℕ → Point) (count : ℕ) → IsStraight path count ⊎ ¬ IsStraight path count
is_straight path count =
    by_other
    (λ h. record { not_all_four = h.0; near = λ i j k first second within. h.1 i (omega arith) j (omega arith) k (omega arith) first second })
    (λ s. (s.not_all_four, λ i i_below j j_below k k_below first second. s.near i j k first second (omega arith)))
    (both (opposite (takes_all_four path count)) (are_near path (suc count)))

pub is_possible : (points : List Point) (i j : ℕ) → IsPossible points i j ⊎ ¬ IsPossible points i j
is_possible points i j =
    by_other
    (λ h. record { rises = h.0.0; leaves_three = h.0.1; short = h.1.0; straight = h.1.1 })
    (λ p. ((p.rises, p.leaves_three), (p.short, p.straight)))
    (both (both (less i j) (at_most (j - i + 3) (length points))) (both (at_most (j - i) MOST_STEPS) (is_straight (path_from points (i + (length points - 1))) (j - i + 2))))
