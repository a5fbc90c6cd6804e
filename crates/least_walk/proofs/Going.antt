-- What all ways to go on from an index have in common.
use Rattle.std.proofs.Common.{◌≡◌, ℕ, suc, ◌+◌, ◌*◌, ◌^◌, ◌<◌, ◌≤◌, List, [], ◌∷◌, length}
use Rattle.std.proofs.Common.{refl, ap, arith}
use Rattle.std.proofs.lemmas.List.Sums.{sum_by-cons}
use Rattle.least_walk.specs.LeastWalk.{Step, steps_from, total_cost}
use Rattle.least_walk.specs.Inner.Suffix.{IsFewestFrom, WalksOn}

-- each further index is one step
pub length-steps_from : (i : ℕ) (rest : List ℕ) → length (steps_from i rest) ≡ length rest
length-steps_from i [] = refl
length-steps_from i (j ∷ rest) = ap suc (length-steps_from j rest)

-- the first step is paid beside the others
pub total_cost-cons : (cost : ℕ → ℕ → ℕ) (i j : ℕ) (rest : List ℕ)
    → total_cost cost (i ∷ j ∷ rest) ≡ cost i j + total_cost cost (j ∷ rest)
total_cost-cons cost i j rest =
    sum_by-cons (λ (step : Step). cost step.from step.to) (record { from = i; to = j }) (steps_from j rest)

module _ (size : ℕ) (is_allowed : ℕ → ℕ → Type 0) where
  -- there is an index below the end for each step
  pub goes_below : (i : ℕ) (rest : List ℕ) → WalksOn size is_allowed i rest → i + length rest ≤ size
  goes_below i [] at_end = omega arith
  goes_below i (j ∷ rest) goes = omega (arith, goes_below j rest goes.2)

  -- so there are no more of the fewest steps than that
  pub fewest_below : (i n : ℕ) → IsFewestFrom size is_allowed i n → i + n ≤ size
  fewest_below i n fewest = omega (arith, goes_below i fewest.rest fewest.goes_on, fewest.count)

  -- the steps together cost no more than as many steps may
  pub total_cost-below : (cost : ℕ → ℕ → ℕ)
      → ((i j : ℕ) → i < size → is_allowed i j → cost i j < 2 ^ 56)
      → (i : ℕ) (rest : List ℕ) → WalksOn size is_allowed i rest
      → total_cost cost (i ∷ rest) ≤ length rest * 2 ^ 56
  total_cost-below cost cheap i [] goes = omega arith
  total_cost-below cost cheap i (j ∷ rest) goes =
      let below = goes_below j rest goes.2 in
      omega (
        arith,
        total_cost-cons cost i j rest,
        cheap i j (omega arith) goes.1,
        total_cost-below cost cheap j rest goes.2,
      )
