-- How far the segments of a polygon reach.
use Rattle.std.specs.Prelude.{◌≡◌, ℕ, ◌+◌, ◌-◌, ◌<◌, ◌≤◌, List, length, slice_index}
use Rattle.pt_core.specs.declared.point.Point.{Point}
use Rattle.pt_core.specs.declared.limits.TheConstants.{MOST_STEPS}
use Rattle.polygon_search.specs.Polygon.{IsSegment}

-- the longest segment from point i leads to point `last`
pub record IsLast (points : List Point) (i last : ℕ) : Type 0 where
  pub reached : IsSegment points i last
  pub farthest : (j : ℕ) → IsSegment points i j → j ≤ last

-- for each point, the list has where the longest segment from it leads
pub record HasLasts (points : List Point) (lasts : List ℕ) : Type 0 where
  pub places : length lasts ≡ length points
  pub each : (i : ℕ) → i < length points → IsLast points i (slice_index lasts i)

-- a segment of a path of so many points leads onwards, not beyond its end, and isn't too long
pub record LeadsOn (size i last : ℕ) : Type 0 where
  pub beyond : i < last
  pub within : last ≤ size
  pub short : last - i ≤ MOST_STEPS

-- no segment reaches farther than the longest one from the next point
abbrev pub AreRising : ℕ → List ℕ → Type 0
AreRising size lasts = (i : ℕ) → i + 1 < size → slice_index lasts i ≤ slice_index lasts (i + 1)

-- the segment from point i to point j goes no farther than the longest one
abbrev pub IsUpToLast : List ℕ → ℕ → ℕ → Type 0
IsUpToLast lasts i j = (i < j) × (j ≤ slice_index lasts i)
