-- What the search for a path's best polygon knows of its points.
use Rattle.std.specs.Prelude.{◌≡◌, ℕ, zero, suc, ◌+◌, ◌-◌, ◌%◌, ◌<◌, ◌≤◌, List, length, replicate, set, slice_index}
use Rattle.std.specs.Int.{IsPowerOfTwo}
use Rattle.least_walk.specs.Inner.MarkedPlaces.{IsPlace}
use Rattle.least_walk.specs.Inner.Suffix.{HasCosts, IsLeastCost, IsLeastNext}
use Rattle.polygon_search.specs.declared.search.OnwardSegment.{OnwardSegment}

-- from each later point, from `low` to the end, no more segments are left than from an earlier one
abbrev pub AreFalling : ℕ → ℕ → List ℕ → Type 0
AreFalling size low counts = (j k : ℕ) → low ≤ j → j ≤ k → k ≤ size → slice_index counts k ≤ slice_index counts j

-- the farthest points after no segment, after one, and so on to `most`: each is as far as the longest segment from
-- the one before reaches, and as few segments are left as can be
pub record AreFarthest (size : ℕ) (lasts counts : List ℕ) (most : ℕ) (farthest : List ℕ) : Type 0 where
  pub count : length farthest ≡ most + 1
  pub first : slice_index farthest 0 ≡ 0
  pub onwards : (c : ℕ) → c < most → slice_index farthest (c + 1) ≡ slice_index lasts (slice_index farthest c)
  pub within : (c : ℕ) → c ≤ most → slice_index farthest c ≤ size
  pub left : (c : ℕ) → c ≤ most → slice_index counts (slice_index farthest c) + c ≡ slice_index counts 0

-- a list of the fewest segments to the end from each of the last points, so many of them: from each one more than from
-- where its longest segment leads
abbrev pub counts_after : ℕ → List ℕ → ℕ → List ℕ
counts_after size lasts zero = replicate (size + 1) 0
counts_after size lasts (suc done) = set (counts_after size lasts done) (size - suc done)
    (slice_index (counts_after size lasts done) (slice_index lasts (size - suc done)) + 1)

-- the same from all points
abbrev pub counts_of : ℕ → List ℕ → List ℕ
counts_of size lasts = counts_after size lasts size

-- the farthest points after no segment, after one, and so on to the end
abbrev pub AreWindowEnds : ℕ → List ℕ → List ℕ → Type 0
AreWindowEnds size lasts farthest = AreFarthest size lasts (counts_of size lasts) (slice_index (counts_of size lasts) 0) farthest

-- the first point from which as few segments are left as can be after so many
pub record BeginsWindow (size : ℕ) (counts : List ℕ) (window begin : ℕ) : Type 0 where
  pub within : begin ≤ size
  pub left : slice_index counts begin + window ≡ slice_index counts 0
  pub none_before : (k : ℕ) → k < begin → slice_index counts begin < slice_index counts k

-- so many slots are enough: they are a power of two, and more than each segment has steps
pub record AreEnoughSlots (size : ℕ) (lasts : List ℕ) (slots : ℕ) : Type 0 where
  pub power : IsPowerOfTwo slots
  pub beyond : (i : ℕ) → i < size → slice_index lasts i < i + slots

-- where the cost of the best way from point k is kept
abbrev pub slot_of : ℕ → ℕ → ℕ
slot_of slots k = k % slots

-- of the points from `begin` to before `end` this is the cheapest, and of several the first
pub record HasCheapest (cost_by : ℕ → ℕ) (begin end : ℕ) (onward : OnwardSegment) : Type 0 where
  pub above : begin ≤ onward.next
  pub below : onward.next < end
  pub cost : onward.cost ≡ cost_by onward.next
  pub cheapest : (k : ℕ) → begin ≤ k → k < end → onward.cost ≤ cost_by k
  pub first : (k : ℕ) → begin ≤ k → k < onward.next → onward.cost < cost_by k

-- it is the one that is cheaper than `best`; or there is none, and it is `best`
pub data IsCheaperIn (cost_by : ℕ → ℕ) (begin end : ℕ) (best onward : OnwardSegment) : Type 0 where
  found : onward.cost < best.cost → HasCheapest cost_by begin end onward → IsCheaperIn cost_by begin end best onward
  none : onward ≡ best → ((k : ℕ) → begin ≤ k → k < end → best.cost ≤ cost_by k) → IsCheaperIn cost_by begin end best onward

-- the slots have the nearest ones of a list of what the best ways on cost, from `low` on
pub record AreKept (size : ℕ) (is_allowed : ℕ → ℕ → Type 0) (cost : ℕ → ℕ → ℕ) (low : ℕ) (costs : List ℕ) : Type 0 where
  pub whole : List ℕ
  pub places : size < length whole
  pub are : HasCosts size is_allowed cost low whole
  pub kept : (k : ℕ) → low ≤ k → k ≤ size → k < low + length costs → slice_index costs (slot_of (length costs) k) ≡ slice_index whole k

-- from point i on the list leads along the least way. Vertices have floors, and no segment of a least way raises the floor
-- by more than it costs. So if floor and cost at i are within a limit, they are so along the whole way; and at each vertex
-- where they are, the list has where the least way leads first
pub record LeadsAlong (size : ℕ) (is_allowed : ℕ → ℕ → Type 0) (cost : ℕ → ℕ → ℕ) (i : ℕ) (nexts : List ℕ) : Type 0 where
  pub floors : ℕ → ℕ
  pub limit : ℕ
  pub start : (c : ℕ) → IsLeastCost size is_allowed cost i c → floors i + c ≤ limit
  pub rises : (k j : ℕ) → k < size → IsPlace size is_allowed k → IsLeastNext size is_allowed cost k j → floors j ≤ floors k + cost k j
  pub each : (k c : ℕ) → k < size → IsPlace size is_allowed k → IsLeastCost size is_allowed cost k c → floors k + c ≤ limit
      → IsLeastNext size is_allowed cost k (slice_index nexts k)
