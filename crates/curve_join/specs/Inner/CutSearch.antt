-- What the search for the best cut of an outline knows of the ways on from its pieces.
use Rattle.std.specs.Prelude.{◌≡◌, ℕ, ◌+◌, ◌<◌, ◌≤◌, List, length, slice_index, slice_index_or, slice_range}
use Rattle.least_walk.specs.Inner.Suffix.{IsLeastCost}
use Rattle.curve_join.specs.Join.{joined_piece}
use Rattle.curve_join.specs.declared.bend.Bend.{Bend}
use Rattle.curve_join.specs.declared.room.JoinedRun.{JoinedRun}
use Rattle.curve_join.specs.declared.search.WayOn.{WayOn}

-- the first way on is at least as good as the second one: by its number of runs, then by their cost, then by the end of
-- its first run
pub record IsNotBehind (a b : WayOn) : Type 0 where
  pub count : a.count ≤ b.count
  pub cost : a.count ≡ b.count → a.cost ≤ b.cost
  pub next : a.count ≡ b.count → a.cost ≡ b.cost → a.next ≤ b.next

-- a way on with the penalty of its first run added
abbrev pub paid : ℕ → WayOn → WayOn
paid penalty way = record { count = way.count; cost = way.cost + penalty; next = way.next }

-- at each index from `low` to the end, `costs` has the cost of the best way on from there
abbrev pub AreLeastCosts : ℕ → (ℕ → ℕ → Type 0) → (ℕ → ℕ → ℕ) → ℕ → List ℕ → Type 0
AreLeastCosts size is_allowed cost low costs = (k : ℕ) → low ≤ k → k ≤ size
    → IsLeastCost size is_allowed cost k (slice_index costs k)

-- the piece of this run is right, if the run has several pieces
abbrev pub IsJoinedRun : List Bend → ℕ → JoinedRun → Type 0
IsJoinedRun bends i run = i + 1 < run.to → run.piece ≡ joined_piece (slice_range bends i run.to)

-- the piece of the run at each index is right
abbrev pub AreJoinedRuns : List Bend → List JoinedRun → Type 0
AreJoinedRuns bends runs = (k : ℕ) (d : JoinedRun) → k < length runs → IsJoinedRun bends k (slice_index_or runs k d)
