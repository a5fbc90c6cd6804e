-- What is known of the vertices of polygons before the search.
use Rattle.std.specs.Prelude.{◌≡◌, ℕ, ◌+◌, ◌-◌, ◌<◌, ◌≤◌, ◌^◌, List, length, slice_index, slice_index_or}
use Rattle.polygon_search.specs.declared.bounds.Bound.{Bound}
use Rattle.polygon_search.specs.Inner.Search.{AreWindowEnds, BeginsWindow, counts_of}

-- nothing is known
abbrev pub no_bound : Bound
no_bound = record { floor = 0; ahead = 0; behind = 0 }

-- what is known of point k
abbrev pub bound_at : List Bound → ℕ → Bound
bound_at bounds k = slice_index_or bounds k no_bound

-- the windows of a path begin and end at these points
pub record AreWindowBegins (size : ℕ) (lasts begins farthest : List ℕ) : Type 0 where
  pub ends : AreWindowEnds size lasts farthest
  pub count : length begins ≡ length farthest
  pub each : (window : ℕ) → window < length begins → BeginsWindow size (counts_of size lasts) window (slice_index begins window)

-- a vertex of this window
pub record IsInWindow (begins farthest : List ℕ) (window k : ℕ) : Type 0 where
  pub begin : slice_index begins window ≤ k
  pub end : k ≤ slice_index farthest window

-- what is known of two vertices that a segment of this cost joins: who comes to the second through it has paid as much
-- as the second one's floor, and what the first and the second add to it isn't more than it costs
pub record IsPairBounded (cost : ℕ) (from to : Bound) : Type 0 where
  pub floor : to.floor ≤ from.floor + cost
  pub halves : from.ahead + to.behind ≤ cost

-- the same of all segments from the first windows into the next ones
pub record AreBoundsOf (lasts begins farthest : List ℕ) (cost : ℕ → ℕ → ℕ) (windows : ℕ) (bounds : List Bound) : Type 0 where
  pub first : (bound_at bounds 0).floor ≡ 0
  pub small : (k : ℕ) → (bound_at bounds k).floor < 2 ^ 56
  pub joined : (window i j : ℕ) → window < windows → IsInWindow begins farthest window i
      → slice_index begins (window + 1) ≤ j → j ≤ slice_index lasts i
      → IsPairBounded (cost i j) (bound_at bounds i) (bound_at bounds j)

-- and of all segments between windows: none leads beyond the last one
abbrev pub AreBounds : List ℕ → List ℕ → List ℕ → (ℕ → ℕ → ℕ) → List Bound → Type 0
AreBounds lasts begins farthest cost bounds = AreBoundsOf lasts begins farthest cost (length farthest - 1) bounds
