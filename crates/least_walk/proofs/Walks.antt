-- A walk is 0 and a way to go on from there.
use Rattle.std.proofs.Common.{◌≡◌, ℕ, ◌<◌, List, [], ◌∷◌, ◌++◌, length, refl, ap, sym, ◌∙◌, subst}
use Rattle.std.proofs.Common.{inl, inr, arith, Some, sub-one, length-append}
use Rattle.std.specs.List.{slice_get, All}
use Rattle.std.proofs.lemmas.Bool.{cases_lt}
use Rattle.std.proofs.lemmas.List.Elements.{All-nil, All-cons, All-head, All-tail}
use Rattle.least_walk.specs.LeastWalk.{Step, steps_from, step_count, total_cost, walk_from}
use Rattle.least_walk.specs.LeastWalk.{IsWalk, IsLeast, IsBefore}
use Rattle.least_walk.specs.LeastWalk.IsBefore.{by_steps}
use Rattle.least_walk.proofs.OneLeast.{one_least}
use Rattle.least_walk.specs.Inner.Suffix.{WalksOn, IsFewestFrom, IsLeastFrom, IsLeastCost}
use Rattle.least_walk.proofs.Going.{length-steps_from}

-- a walk has as many steps as starts of steps
pub step_count-walk_from : (starts : List ℕ) (size : ℕ) → step_count (walk_from starts size) ≡ length starts
step_count-walk_from [] size = refl
step_count-walk_from (i ∷ rest) size = length-steps_from i (rest ++ size ∷ []) ∙ simp length-append (omega arith)

module _ (size : ℕ) (is_allowed : ℕ → ℕ → Type 0) where
  -- from a way to go on to a walk
  last_from_goes : (i : ℕ) (rest : List ℕ) → WalksOn size is_allowed i rest
      → slice_get (i ∷ rest) (length rest) ≡ Some size
  last_from_goes i [] at_end = ap Some at_end
  last_from_goes i (j ∷ rest) goes = last_from_goes j rest goes.2

  rises_from_goes : (i : ℕ) (rest : List ℕ) → WalksOn size is_allowed i rest
      → All (λ step. step.from < step.to) (steps_from i rest)
  rises_from_goes i [] at_end = All-nil (λ (step : Step). step.from < step.to)
  rises_from_goes i (j ∷ rest) goes =
      All-cons (λ step. step.from < step.to) (record { from = i; to = j }) (steps_from j rest)
      goes.0 (rises_from_goes j rest goes.2)

  allowed_from_goes : (i : ℕ) (rest : List ℕ) → WalksOn size is_allowed i rest
      → All (λ step. is_allowed step.from step.to) (steps_from i rest)
  allowed_from_goes i [] at_end = All-nil (λ (step : Step). is_allowed step.from step.to)
  allowed_from_goes i (j ∷ rest) goes =
      All-cons (λ step. is_allowed step.from step.to) (record { from = i; to = j }) (steps_from j rest)
      goes.1 (allowed_from_goes j rest goes.2)

  pub walk_from_goes : (rest : List ℕ) → WalksOn size is_allowed 0 rest → IsWalk size is_allowed (0 ∷ rest)
  walk_from_goes rest goes = record {
    first = refl;
    last = rw sub-one (last_from_goes 0 rest goes);
    rises = rises_from_goes 0 rest goes;
    allowed = allowed_from_goes 0 rest goes;
  }

  -- and back
  goes_from_steps : (i : ℕ) (rest : List ℕ)
      → slice_get (i ∷ rest) (length rest) ≡ Some size
      → All (λ step. step.from < step.to) (steps_from i rest)
      → All (λ step. is_allowed step.from step.to) (steps_from i rest)
      → WalksOn size is_allowed i rest
  goes_from_steps i [] last rises allowed = cc
  goes_from_steps i (j ∷ rest) last rises allowed =
      let step : Step = record { from = i; to = j } in
      let others = steps_from j rest in (
        All-head (λ (s : Step). s.from < s.to) step others rises,
        All-head (λ (s : Step). is_allowed s.from s.to) step others allowed,
        goes_from_steps j rest last
            (All-tail (λ (s : Step). s.from < s.to) step others rises)
            (All-tail (λ (s : Step). is_allowed s.from s.to) step others allowed),
      )

  pub goes_from_walk : (walk : List ℕ) → IsWalk size is_allowed walk
      → (rest : List ℕ) × (walk ≡ 0 ∷ rest) × WalksOn size is_allowed 0 rest
  goes_from_walk [] is_walk = absurd (let none = is_walk.first in cc)
  goes_from_walk (i ∷ rest) is_walk =
      let at_zero : i ≡ 0 = let first = is_walk.first in cc in
      let goes = goes_from_steps i rest (rw sub-one at is_walk.last) is_walk.rises is_walk.allowed in
      (rest, ap (λ (k : ℕ). k ∷ rest) at_zero, subst (λ k. WalksOn size is_allowed k rest) at_zero goes)

  -- the least way to go on from 0 is the least walk
  pub least_from_goes : (cost : ℕ → ℕ → ℕ) (rest : List ℕ) → IsLeastFrom size is_allowed cost 0 rest
      → IsLeast size is_allowed cost (0 ∷ rest)
  least_from_goes cost rest least = record {
    is_walk = walk_from_goes rest least.goes_on;
    none_before = λ other other_walk before.
        let (after, same, goes) = goes_from_walk other other_walk in
        least.none_before after goes (subst (λ v. IsBefore cost v (0 ∷ rest)) same before);
  }

  module _ (cost : ℕ → ℕ → ℕ) (walk : List ℕ) (least : IsLeast size is_allowed cost walk) where
    -- so it costs as much
    pub total_cost-least : (c : ℕ) → IsLeastCost size is_allowed cost 0 c → c ≡ total_cost cost walk
    total_cost-least c spent =
        let other = least_from_goes cost spent.rest spent.is_least in
        sym spent.costs ∙ ap (total_cost cost) (one_least size is_allowed cost (0 ∷ spent.rest) walk other least)

    -- and it has the fewest steps
    pub step_count-least : (n : ℕ) → IsFewestFrom size is_allowed 0 n → n ≡ step_count walk
    step_count-least n fewest =
        let (rest, same, goes) = goes_from_walk walk least.is_walk in
        let other = walk_from_goes fewest.rest fewest.goes_on in
        let counted = length-steps_from 0 fewest.rest in
        let at_least = fewest.none_fewer rest goes in
        elim (cases_lt n (step_count walk)) [
          | inl more ↦ absurd (least.none_before (0 ∷ fewest.rest) other (by_steps (omega (arith, fewest.count))))
          | inr at_most ↦ omega (arith, ap step_count same, length-steps_from 0 rest)
        ]
