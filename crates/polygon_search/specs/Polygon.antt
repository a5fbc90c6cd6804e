-- The best polygon of a path (Selinger, "Potrace: a polygon-based tracing algorithm", 2003, sections 2.2.2 to
-- 2.2.4). That it goes through the path's first point, that penalties are rounded, and the last of the rules
-- by which one polygon comes before another are our own.
use Rattle.std.specs.Prelude.{ℕ, ◌+◌, ◌-◌, ◌*◌, ◌/◌, ◌≤◌, unsigned_abs, List, length}
use Rattle.pt_core.specs.declared.point.Point.{Point}
use Rattle.pt_core.specs.Root.{root_of}
use Rattle.prefix_moments.specs.Sums.{spread_of}
use Rattle.straight_paths.specs.Straight.{IsPossible}
use Rattle.least_walk.specs.LeastWalk.{IsWalk, IsLeast, total_cost, walk_from}

-- a polygon's segment may lead from point i to point j: it is possible, and goes no farther than to the
-- first point again, which is numbered as the point after the last one
pub record IsSegment (points : List Point) (i j : ℕ) : Type 0 where
  pub possible : IsPossible points i j
  pub ends : j ≤ length points

-- the penalty of the segment from point i to point j: the root of the mean squared cross product, in units
-- of 1/256, rounded down
unfoldable pub penalty_of : List Point → ℕ → ℕ → ℕ
penalty_of points i j = root_of (65536 * unsigned_abs (spread_of points i j) / (j - i + 1))

-- the points with these numbers, in order, are the vertices of a polygon through the first point
abbrev pub IsPolygon : List Point → List ℕ → Type 0
IsPolygon points at = IsWalk (length points) (IsSegment points) (walk_from at (length points))

-- the penalties of a polygon's segments together
abbrev pub total_penalty : List Point → List ℕ → ℕ
total_penalty points at = total_cost (penalty_of points) (walk_from at (length points))

-- they are the vertices of the best polygon: it has the fewest segments; of those the least penalty; and of
-- those the lexicographically least list
abbrev pub IsBestPolygon : List Point → List ℕ → Type 0
IsBestPolygon points at =
    IsLeast (length points) (IsSegment points) (penalty_of points) (walk_from at (length points))
