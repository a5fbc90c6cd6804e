-- What is written down of one more index, from the end down.
use Rattle.std.proofs.Common.{ℕ, ◌+◌, ◌<◌, ◌≤◌, List, length, sym, subst, set, get_or, get_or-set_same, inl, inr, arith}
use Rattle.std.proofs.lemmas.List.{get_or-set_other}
use Rattle.std.proofs.lemmas.Bool.{cases_eq}
use Rattle.least_walk.specs.Inner.Suffix.{HasCosts, HasNexts, IsLeastCost, IsLeastNext}
use Rattle.least_walk.specs.Inner.MarkedPlaces.{IsPlace}

-- what holds of each value from `i + 1` on, and of the new one at i, holds from i on
pub filled : (Holds : ℕ → ℕ → Type 0) (values : List ℕ) (i v : ℕ) → i < length values → Holds i v
    → ((k : ℕ) → i < k → Holds k (get_or values k 0))
    → (k : ℕ) → i ≤ k → Holds k (get_or (set values i v) k 0)
filled Holds values i v room here later k above =
    elim (cases_eq k i) [
      | inl same ↦
          let P : ℕ → Type 0 = λ m. Holds m (get_or (set values i v) m 0) in
          subst P (sym same) (subst (Holds i) (sym (get_or-set_same values i v 0 room)) here)
      | inr other ↦ subst (Holds k) (sym (get_or-set_other values i k v 0 other)) (later k (omega arith))
    ]

module _ (size : ℕ) (is_allowed : ℕ → ℕ → Type 0) (cost : ℕ → ℕ → ℕ) (i : ℕ) (values : List ℕ) where
  pub costs_more : (c : ℕ) → i < length values → HasCosts size is_allowed cost (i + 1) values → IsLeastCost size is_allowed cost i c
      → HasCosts size is_allowed cost i (set values i c)
  costs_more c room later here k above within place =
      filled (λ k c. k ≤ size → IsPlace size is_allowed k → IsLeastCost size is_allowed cost k c) values i c room
      (λ within place. here) (λ k above. later k (omega arith)) k above within place

  pub nexts_more : (j : ℕ) → i < length values → HasNexts size is_allowed cost (i + 1) values → IsLeastNext size is_allowed cost i j
      → HasNexts size is_allowed cost i (set values i j)
  nexts_more j room later here k above within place =
      filled (λ k j. k < size → IsPlace size is_allowed k → IsLeastNext size is_allowed cost k j) values i j room
      (λ within place. here) (λ k above. later k (omega arith)) k above within place

  -- an index that no walk of fewest steps goes through is left out
  pub costs_same : HasCosts size is_allowed cost (i + 1) values → ¬ IsPlace size is_allowed i → HasCosts size is_allowed cost i values
  costs_same later none k above within place =
      elim (cases_eq k i) [
        | inl same ↦ absurd (none (subst (IsPlace size is_allowed) same place))
        | inr other ↦ later k (omega arith) within place
      ]

  pub nexts_same : HasNexts size is_allowed cost (i + 1) values → ¬ IsPlace size is_allowed i → HasNexts size is_allowed cost i values
  nexts_same later none k above within place =
      elim (cases_eq k i) [
        | inl same ↦ absurd (none (subst (IsPlace size is_allowed) same place))
        | inr other ↦ later k (omega arith) within place
      ]
