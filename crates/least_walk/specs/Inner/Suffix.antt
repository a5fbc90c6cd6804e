-- Walks as the search sees them: from an index on to the end.
use Rattle.std.specs.Prelude.{◌≡◌, ℕ, ◌<◌, ◌≤◌, List, [], ◌∷◌, length, slice_index}
use Rattle.least_walk.specs.LeastWalk.{total_cost, IsBefore}
use Rattle.least_walk.specs.Inner.MarkedPlaces.{IsPlace}

-- from the index i a walk goes on by these indices, and ends at `size`
abbrev pub WalksOn : ℕ → (ℕ → ℕ → Type 0) → ℕ → List ℕ → Type 0
WalksOn size is_allowed i [] = i ≡ size
WalksOn size is_allowed i (j ∷ rest) = (i < j) × is_allowed i j × WalksOn size is_allowed j rest

-- n is the fewest number of steps from i to the end
pub record IsFewestFrom (size : ℕ) (is_allowed : ℕ → ℕ → Type 0) (i n : ℕ) : Type 0 where
  pub rest : List ℕ
  pub goes_on : WalksOn size is_allowed i rest
  pub count : length rest ≡ n
  pub none_fewer : (other : List ℕ) → WalksOn size is_allowed i other → n ≤ length other

-- this is the least way to go on from i: none comes before it
pub record IsLeastFrom (size : ℕ) (is_allowed : ℕ → ℕ → Type 0) (cost : ℕ → ℕ → ℕ)
    (i : ℕ) (rest : List ℕ) : Type 0 where
  pub goes_on : WalksOn size is_allowed i rest
  pub none_before : (other : List ℕ) → WalksOn size is_allowed i other
      → ¬ IsBefore cost (i ∷ other) (i ∷ rest)

-- the least way to go on from i costs c
pub record IsLeastCost (size : ℕ) (is_allowed : ℕ → ℕ → Type 0) (cost : ℕ → ℕ → ℕ) (i c : ℕ)
    : Type 0 where
  pub rest : List ℕ
  pub is_least : IsLeastFrom size is_allowed cost i rest
  pub costs : total_cost cost (i ∷ rest) ≡ c

-- the least way to go on from i begins with the step to j
pub record IsLeastNext (size : ℕ) (is_allowed : ℕ → ℕ → Type 0) (cost : ℕ → ℕ → ℕ) (i j : ℕ)
    : Type 0 where
  pub rest : List ℕ
  pub is_least : IsLeastFrom size is_allowed cost i (j ∷ rest)

-- at each index from `low` to the end stands the fewest number of steps from there
abbrev pub HasFewest : ℕ → (ℕ → ℕ → Type 0) → ℕ → List ℕ → Type 0
HasFewest size is_allowed low counts = (k : ℕ) → low ≤ k → k ≤ size
    → IsFewestFrom size is_allowed k (slice_index counts k)

-- at each index from `low` to the end that walks of fewest steps go through stands what the least way
-- to go on from there costs
abbrev pub HasCosts : ℕ → (ℕ → ℕ → Type 0) → (ℕ → ℕ → ℕ) → ℕ → List ℕ → Type 0
HasCosts size is_allowed cost low costs = (k : ℕ) → low ≤ k → k ≤ size → IsPlace size is_allowed k
    → IsLeastCost size is_allowed cost k (slice_index costs k)

-- at each such index before the end stands where the least way to go on from there leads first
abbrev pub HasNexts : ℕ → (ℕ → ℕ → Type 0) → (ℕ → ℕ → ℕ) → ℕ → List ℕ → Type 0
HasNexts size is_allowed cost low nexts = (k : ℕ) → low ≤ k → k < size → IsPlace size is_allowed k
    → IsLeastNext size is_allowed cost k (slice_index nexts k)
