-- What a search within a limit knows of a path's points.
use Rattle.std.specs.Prelude.{◌≡◌, ℕ, ◌+◌, ◌<◌, ◌≤◌, ◌^◌, List, length, slice_index}
use Rattle.least_walk.specs.Inner.MarkedPlaces.{IsPlace}
use Rattle.least_walk.specs.Inner.Suffix.{HasCosts, IsLeastCost, IsLeastNext}
use Rattle.polygon_search.specs.declared.bounds.Bound.{Bound}
use Rattle.polygon_search.specs.declared.bounds.TheConstants.{FAR}
use Rattle.polygon_search.specs.declared.search.OnwardSegment.{OnwardSegment}
use Rattle.polygon_search.specs.Inner.VertexBounds.{bound_at}
use Rattle.polygon_search.specs.Inner.Search.{HasCheapest, slot_of}

-- a polygon through point k, from which on it costs so much, may cost no more than the limit
abbrev pub IsWithinLimit : List Bound → ℕ → ℕ → ℕ → Type 0
IsWithinLimit bounds limit k cost = (bound_at bounds k).floor + cost ≤ limit

-- the slots have at least what the best ways on cost, from `low` on, and just that where it is within the limit
pub record AreKeptWithin (size : ℕ) (is_allowed : ℕ → ℕ → Type 0) (cost : ℕ → ℕ → ℕ) (bounds : List Bound) (limit low : ℕ) (costs : List ℕ) : Type 0 where
  pub whole : List ℕ
  pub places : size < length whole
  pub are : HasCosts size is_allowed cost low whole
  pub enough : (k : ℕ) → low ≤ k → k ≤ size → k < low + length costs → slice_index whole k ≤ slice_index costs (slot_of (length costs) k)
  pub exact : (k : ℕ) → low ≤ k → k ≤ size → k < low + length costs → IsWithinLimit bounds limit k (slice_index whole k)
      → slice_index costs (slot_of (length costs) k) ≡ slice_index whole k
  pub small : (k : ℕ) → IsPlace size is_allowed k → low ≤ k → k ≤ size → k < low + length costs → slice_index costs (slot_of (length costs) k) < 2 ^ 56

-- at each index that walks of fewest steps go through stands where the least way on leads first, where it is within the limit
abbrev pub HasNextsWithin : ℕ → (ℕ → ℕ → Type 0) → (ℕ → ℕ → ℕ) → List Bound → ℕ → ℕ → List ℕ → Type 0
HasNextsWithin size is_allowed cost bounds limit low nexts = (k c : ℕ) → low ≤ k → k < size → IsPlace size is_allowed k
    → IsLeastCost size is_allowed cost k c → IsWithinLimit bounds limit k c
    → IsLeastNext size is_allowed cost k (slice_index nexts k)

-- how a search within a limit goes on from a point with this bound, where at least `rest` is left beyond the segment: by the
-- cheapest one, if floor and cost are within the limit; else its way counts as far
pub data IsOnwardBy (cost_by : ℕ → ℕ) (begin end limit rest : ℕ) (bound : Bound) (onward : OnwardSegment) : Type 0 where
  left_out : limit < bound.floor + bound.ahead + rest → onward.cost ≡ FAR → IsOnwardBy cost_by begin end limit rest bound onward
  too_dear : ((k : ℕ) → begin ≤ k → k < end → limit < bound.floor + cost_by k) → onward.cost ≡ FAR
      → IsOnwardBy cost_by begin end limit rest bound onward
  kept : HasCheapest cost_by begin end onward → bound.floor + onward.cost ≤ limit → IsOnwardBy cost_by begin end limit rest bound onward

-- so much is left at least from each of the points from `low` to `end` that a polygon within the limit may go through: what
-- the second half of a segment to it adds, and what the best way on costs
abbrev pub IsLeastRest : ℕ → (ℕ → ℕ → Type 0) → (ℕ → ℕ → ℕ) → List Bound → ℕ → ℕ → ℕ → ℕ → Type 0
IsLeastRest size is_allowed cost bounds limit low end rest = (k c : ℕ) → low ≤ k → k ≤ end
    → IsLeastCost size is_allowed cost k c → IsWithinLimit bounds limit k c → rest ≤ (bound_at bounds k).behind + c
