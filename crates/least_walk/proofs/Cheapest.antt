-- The cheapest step that keeps to the fewest.
use Rattle.std.proofs.Common.{◌≡◌, ℕ, ◌+◌, ◌-◌, ◌^◌, ◌<◌, ◌≤◌, ◌⊎◌, List, ◌∷◌, inl, inr, ap, subst, ◌∙◌, arith}
use Rattle.std.proofs.lemmas.Bool.{cases_eq}
use Rattle.std.specs.List.{slice_index}
use Rattle.least_walk.specs.Inner.Suffix.{IsLeastFrom, IsLeastCost, IsLeastNext, HasFewest}
use Rattle.least_walk.proofs.Going.{goes_below, total_cost-cons, total_cost-below}
use Rattle.least_walk.proofs.Onward.{some_fewest, least_onward}

-- of the indices above `from` and below `to` that are kept, `next` is the cheapest, and of several
-- the least; where there is none, `cost` is above any cost
pub record IsCheapest (Keeps : ℕ → Type 0) (cost_by : ℕ → ℕ) (from to cost next : ℕ) : Type 0 where
  pub near : next < to
  pub cheapest : (k : ℕ) → from < k → k < to → Keeps k → cost ≤ cost_by k
  pub least : (k : ℕ) → from < k → k < to → Keeps k → cost ≡ cost_by k → next ≤ k
  pub reached : (cost ≡ 2 ^ 128 - 1) ⊎ ((from < next) × Keeps next × (cost ≡ cost_by next))

module _ (Keeps : ℕ → Type 0) (cost_by : ℕ → ℕ) (from to cost next : ℕ) where
  -- one more index, which is cheaper
  pub cheapest_taken : (c : ℕ) → from < to → Keeps to → c ≡ cost_by to → c < cost → IsCheapest Keeps cost_by from to cost next
      → IsCheapest Keeps cost_by from (to + 1) c to
  cheapest_taken c above keeps is cheaper so_far = record {
    near = omega arith;
    cheapest = λ k onwards below k_keeps. elim (cases_eq k to) [
      | inl same ↦ omega (arith, ap cost_by same)
      | inr other ↦ omega (arith, so_far.cheapest k onwards (omega arith) k_keeps)
    ];
    least = λ k onwards below k_keeps tied. elim (cases_eq k to) [
      | inl same ↦ omega arith
      | inr other ↦ absurd (omega (arith, so_far.cheapest k onwards (omega arith) k_keeps))
    ];
    reached = inr (above, keeps, is);
  }

  -- one more index, which isn't kept or is no cheaper
  pub cheapest_passed : (Keeps to → cost ≤ cost_by to) → IsCheapest Keeps cost_by from to cost next
      → IsCheapest Keeps cost_by from (to + 1) cost next
  cheapest_passed dearer so_far = record {
    near = omega (arith, so_far.near);
    cheapest = λ k onwards below k_keeps. elim (cases_eq k to) [
      | inl same ↦ omega (arith, ap cost_by same, dearer (subst Keeps same k_keeps))
      | inr other ↦ so_far.cheapest k onwards (omega arith) k_keeps
    ];
    least = λ k onwards below k_keeps tied. elim (cases_eq k to) [
      | inl same ↦ omega (arith, so_far.near)
      | inr other ↦ so_far.least k onwards (omega arith) k_keeps tied
    ];
    reached = so_far.reached;
  }

module _ (size : ℕ) (is_allowed : ℕ → ℕ → Type 0) (cost : ℕ → ℕ → ℕ) (small : size ≤ 2 ^ 31)
    (cheap : (i j : ℕ) → i < size → is_allowed i j → cost i j < 2 ^ 56) where
  -- no way to go on costs as much as 2^88
  pub cost_below : (i c : ℕ) → IsLeastCost size is_allowed cost i c → c < 2 ^ 88
  cost_below i c spent =
      let room = goes_below size is_allowed i spent.rest spent.is_least.goes_on in
      let bound = total_cost-below size is_allowed cost cheap i spent.rest spent.is_least.goes_on in
      omega (arith, spent.costs)

  -- of the steps from i that keep to the fewest, all of which lead to below `to`
  module _ (counts costs : List ℕ) (i to c next : ℕ) (below : i < size)
      (fewest : HasFewest size is_allowed i counts)
      (later : (k : ℕ) → i < k → k ≤ size → is_allowed i k → slice_index counts k + 1 ≡ slice_index counts i
      → IsLeastCost size is_allowed cost k (slice_index costs k))
      (all : (k : ℕ) → is_allowed i k → k < to) (within : to ≤ size + 1)
      (best : IsCheapest (λ k. is_allowed i k × (slice_index counts k + 1 ≡ slice_index counts i))
      (λ k. cost i k + slice_index costs k) i to c next) where
    -- one was found
    found : (i < next)
        × (is_allowed i next × (slice_index counts next + 1 ≡ slice_index counts i))
        × (c ≡ cost i next + slice_index costs next)
    found =
        let (k, above, k_within, allowed, keeps) = some_fewest size is_allowed counts i below fewest in
        let bound = best.cheapest k above (all k allowed) (allowed, keeps) in
        let rest = cost_below k (slice_index costs k) (later k above k_within allowed keeps) in
        elim best.reached [
          | inl none ↦ absurd (omega (arith, cheap i k below allowed))
          | inr some ↦ some
        ]

    abbrev after : IsLeastCost size is_allowed cost next (slice_index costs next)
    after = later next found.0 (omega (arith, best.near)) found.1.0 found.1.1

    least_by_next : IsLeastFrom size is_allowed cost i (next ∷ after.rest)
    least_by_next =
        let same_cost = found.2 in
        least_onward size is_allowed cost counts costs i next below found.0 (omega (arith, best.near))
        found.1.0 found.1.1 fewest later after
        (λ k above k_within allowed keeps. omega (arith, best.cheapest k above (all k allowed) (allowed, keeps)))
        (λ k above k_within allowed keeps tied. best.least k above (all k allowed) (allowed, keeps) (same_cost ∙ tied))

    -- and the least way to go on begins with it
    pub cheapest_onward : IsLeastCost size is_allowed cost i c × IsLeastNext size is_allowed cost i next
    cheapest_onward =
        let paid = total_cost-cons cost i next after.rest in (
          record { rest = next ∷ after.rest; is_least = least_by_next; costs = omega (arith, after.costs, found.2) },
          record { rest = after.rest; is_least = least_by_next },
        )
