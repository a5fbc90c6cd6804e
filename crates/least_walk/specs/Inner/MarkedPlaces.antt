-- The indices that walks of fewest steps go through, as the search marks them.
use Rattle.std.specs.Prelude.{◌≡◌, ℕ, zero, suc, ◌+◌, ◌<◌, ◌≤◌, ◌↔◌, Bool, true, false, List, slice_index}
use Rattle.std.specs.Prelude.{slice_index_or}
use Rattle.least_walk.specs.LeastWalk.{IsFewestPlace}

-- a walk's first n steps may lead to i
abbrev pub ComesBy : (ℕ → ℕ → Type 0) → ℕ → ℕ → Type 0
ComesBy is_allowed zero i = i ≡ 0
ComesBy is_allowed (suc n) i = (k : ℕ) × (k < i) × is_allowed k i × ComesBy is_allowed n k

-- some walk of fewest steps goes through i
abbrev pub IsPlace : ℕ → (ℕ → ℕ → Type 0) → ℕ → Type 0
IsPlace size is_allowed i = (c : ℕ) × IsFewestPlace size is_allowed c i

-- the index is marked
abbrev pub IsMarked : List Bool → ℕ → Type 0
IsMarked marks i = slice_index_or marks i false ≡ true

-- no index is
abbrev pub AreUnmarked : List Bool → Type 0
AreUnmarked marks = (i : ℕ) → slice_index_or marks i false ≡ false

-- what is marked is such an index
abbrev pub AreMarkedPlaces : ℕ → (ℕ → ℕ → Type 0) → List Bool → Type 0
AreMarkedPlaces size is_allowed marks = (i : ℕ) → i ≤ size → IsMarked marks i → IsPlace size is_allowed i

-- and each such index is marked
abbrev pub HasMarks : ℕ → (ℕ → ℕ → Type 0) → List Bool → Type 0
HasMarks size is_allowed marks = (i : ℕ) → i ≤ size → IsMarked marks i ↔ IsPlace size is_allowed i

-- the step from i to j is allowed, and keeps to the fewest: one fewer is left from j than from i
abbrev pub KeepsToFewest : (ℕ → ℕ → Type 0) → List ℕ → ℕ → ℕ → Type 0
KeepsToFewest is_allowed counts i j = is_allowed i j × (slice_index counts j + 1 ≡ slice_index counts i)

-- the steps from i that keep to the fewest lead to marked indices
abbrev pub MarksOnward : ℕ → (ℕ → ℕ → Type 0) → List ℕ → ℕ → List Bool → Type 0
MarksOnward size is_allowed counts i marks = (k : ℕ) → i < k → k ≤ size
    → KeepsToFewest is_allowed counts i k → IsMarked marks k
