-- Straight subpaths and possible segments (Selinger, "Potrace: a polygon-based tracing algorithm",
-- 2003, sections 2.2.1 and 2.2.2). The half-line in `IsNear`, where Selinger has the whole line, and
-- the bound on a segment's steps are our own.
use Rattle.std.specs.Prelude.{◌≡◌, ℕ, suc, ◌+◌, ◌-◌, ◌<◌, ◌≤◌, ℤ, pos, negsuc, ◌-ℤ◌, ◌*ℤ◌, neg_ℤ, ◌≤ℤ◌, List, length}
use Rattle.pt_core.specs.ClosedWalk.{point_at}
use Rattle.pt_core.specs.declared.point.Point.{Point}
use Rattle.path_cones.specs.declared.vector.Vector.{Vector}
use Rattle.pt_core.specs.declared.limits.TheConstants.{MOST_STEPS}

-- how far the second point is from the first
abbrev pub vector_of : Point → Point → Vector
vector_of from to = record { x = to.x -ℤ from.x; y = to.y -ℤ from.y }

-- the whole number is from -q to q
pub record StaysWithin (q : ℕ) (z : ℤ) : Type 0 where
  pub low : neg_ℤ (pos q) ≤ℤ z
  pub high : z ≤ℤ pos q

-- the half-line from the origin through `end` comes within 1 of `middle`, in both coordinates: at p/q
-- of the way to `end`
pub record IsNear (middle end : Vector) : Type 0 where
  pub p : ℕ
  pub q : ℕ
  pub positive : 1 ≤ q
  pub in_x : StaysWithin q (pos q *ℤ middle.x -ℤ pos p *ℤ end.x)
  pub in_y : StaysWithin q (pos q *ℤ middle.y -ℤ pos p *ℤ end.y)

-- one of the first `count` steps of the path is this one
pub record Takes (path : ℕ → Point) (count : ℕ) (step : Vector) : Type 0 where
  pub k : ℕ
  pub early : k < count
  pub taken : vector_of (path k) (path (suc k)) ≡ step

-- the step to the right
abbrev pub east : Vector
east = record { x = pos 1; y = pos 0 }

-- the step up
abbrev pub north : Vector
north = record { x = pos 0; y = pos 1 }

-- the step to the left
abbrev pub west : Vector
west = record { x = negsuc 0; y = pos 0 }

-- the step down
abbrev pub south : Vector
south = record { x = pos 0; y = negsuc 0 }

-- all four directions occur in the first `count` steps of the path
pub record TakesAllFour (path : ℕ → Point) (count : ℕ) : Type 0 where
  pub east : Takes path count east
  pub north : Takes path count north
  pub west : Takes path count west
  pub south : Takes path count south

-- the first `count` steps of the path are straight: not all four directions occur in them, and from
-- each point, each later one is near the half-line through each still later one
pub record IsStraight (path : ℕ → Point) (count : ℕ) : Type 0 where
  pub not_all_four : ¬ TakesAllFour path count
  pub near : (i j k : ℕ) → i < j → j < k → k ≤ count
      → IsNear (vector_of (path i) (path j)) (vector_of (path i) (path k))

-- the closed path from this index on
abbrev pub path_from : List Point → ℕ → ℕ → Point
path_from points start k = point_at points (k + start)

-- the segment from point i to point j may stand for the path between them: the subpath from the
-- point before i to the point after j is straight
pub record IsPossible (points : List Point) (i j : ℕ) : Type 0 where
  pub rises : i < j
  pub leaves_three : j - i + 3 ≤ length points
  pub short : j - i ≤ MOST_STEPS
  pub straight : IsStraight (path_from points (i + (length points - 1))) (j - i + 2)

-- d is the greatest number of steps that a possible segment from point i has
pub record IsFarthest (points : List Point) (i d : ℕ) : Type 0 where
  pub reached : IsPossible points i (i + d)
  pub greatest : (e : ℕ) → IsPossible points i (i + e) → e ≤ d
