-- Least walks: fewest steps, then least cost, then the lexicographically least list. With possible
-- segments for steps, and their penalties for costs, this is the optimal polygon of Selinger,
-- "Potrace: a polygon-based tracing algorithm", 2003, sections 2.2.2 to 2.2.4. The third key is our
-- own: it makes the least walk one list.
use Rattle.std.specs.Prelude.{◌≡◌, ℕ, ◌-◌, ◌<◌, ◌≤◌, List, [], ◌∷◌, ◌++◌, length, slice_get}
use Rattle.std.specs.Prelude.{Some, All, Contains, sum_by}
use Rattle.std.specs.Ordering.{nat_cmp}
use Rattle.std.specs.Cmp.Lexicographic.{slice_cmp}
use Rattle.std.specs.declared.cmp.Ordering.TheVariants.{Less}

-- a step, from one index to another
pub record Step : Type 0 where
  pub from : ℕ
  pub to : ℕ

-- the steps of a walk that goes from this index on by these
abbrev pub steps_from : ℕ → List ℕ → List Step
steps_from i [] = []
steps_from i (j ∷ rest) = record { from = i; to = j } ∷ steps_from j rest

-- a walk's steps: from each of its indices to the next one
abbrev pub steps_of : List ℕ → List Step
steps_of [] = []
steps_of (i ∷ rest) = steps_from i rest

-- how many steps a walk has
abbrev pub step_count : List ℕ → ℕ
step_count walk = length (steps_of walk)

-- what a walk's steps cost together
abbrev pub total_cost : (ℕ → ℕ → ℕ) → List ℕ → ℕ
total_cost cost walk = sum_by (λ step. cost step.from step.to) (steps_of walk)

-- the list rises from 0 to `size`, and each of its steps is allowed
pub record IsWalk (size : ℕ) (is_allowed : ℕ → ℕ → Type 0) (walk : List ℕ) : Type 0 where
  pub first : slice_get walk 0 ≡ Some 0
  pub last : slice_get walk (length walk - 1) ≡ Some size
  pub rises : All (λ step. step.from < step.to) (steps_of walk)
  pub allowed : All (λ step. is_allowed step.from step.to) (steps_of walk)

-- v comes before w: it has fewer steps; or as many, and costs less; or it ties in both, and is the
-- lexicographically lower list
pub data IsBefore (cost : ℕ → ℕ → ℕ) (v w : List ℕ) : Type 0 where
  by_steps : step_count v < step_count w → IsBefore cost v w
  by_cost : step_count v ≡ step_count w
      → total_cost cost v < total_cost cost w
      → IsBefore cost v w
  by_list : step_count v ≡ step_count w
      → total_cost cost v ≡ total_cost cost w
      → slice_cmp nat_cmp v w ≡ Less
      → IsBefore cost v w

-- it is a walk, and no walk comes before it
pub record IsLeast (size : ℕ) (is_allowed : ℕ → ℕ → Type 0) (cost : ℕ → ℕ → ℕ) (walk : List ℕ)
    : Type 0 where
  pub is_walk : IsWalk size is_allowed walk
  pub none_before : (other : List ℕ) → IsWalk size is_allowed other → ¬ IsBefore cost other walk

-- it is a walk, and no walk has fewer steps
pub record IsFewest (size : ℕ) (is_allowed : ℕ → ℕ → Type 0) (walk : List ℕ) : Type 0 where
  pub is_walk : IsWalk size is_allowed walk
  pub none_fewer : (other : List ℕ) → IsWalk size is_allowed other
      → step_count walk ≤ step_count other

-- a fewest step: some walk of fewest steps goes from i to j
pub record IsFewestStep (size : ℕ) (is_allowed : ℕ → ℕ → Type 0) (i j : ℕ) : Type 0 where
  pub walk : List ℕ
  pub is_fewest : IsFewest size is_allowed walk
  pub goes : Contains (steps_of walk) (record { from = i; to = j })

-- some walk of fewest steps stands at i after c of them
pub record IsFewestPlace (size : ℕ) (is_allowed : ℕ → ℕ → Type 0) (c i : ℕ) : Type 0 where
  pub walk : List ℕ
  pub is_fewest : IsFewest size is_allowed walk
  pub stands : slice_get walk c ≡ Some i

-- the walk whose steps begin at these indices, and which ends at `size`
abbrev pub walk_from : List ℕ → ℕ → List ℕ
walk_from starts size = starts ++ size ∷ []
