-- The next corner of each point of a path, and the straight runs between corners.
use Rattle.std.specs.Prelude.{◌≡◌, ℕ, ◌+◌, ◌<◌, ℤ, pos, ◌+ℤ◌, ◌-ℤ◌, ◌*ℤ◌, List, length, slice_index}
use Rattle.pt_core.specs.ClosedWalk.{point_at}
use Rattle.pt_core.specs.declared.point.Point.{Point}
use Rattle.path_cones.specs.Corners.{step_from, IsNextCorner}

-- for each point, the number of steps to the next corner
abbrev pub AreNextCorners : List Point → List ℕ → Type 0
AreNextCorners points corners = (i : ℕ) → i < length points
    → IsNextCorner points i (slice_index corners i)

-- the path goes straight on for r steps from its point number s
abbrev pub GoesStraight : (ℕ → Point) → ℕ → ℕ → Type 0
GoesStraight path s r = (t : ℕ) → t < r → step_from path (s + t) ≡ step_from path s

-- a number that a step to the east makes greater by 1, one to the north by 2, and the others less by as much
abbrev pub mark_of : Point → ℤ
mark_of point = point.x +ℤ pos 2 *ℤ point.y

-- how much the step from an index adds to it
abbrev pub marked_by : List Point → ℕ → ℤ
marked_by points index = mark_of (point_at points (index + 1)) -ℤ mark_of (point_at points index)
