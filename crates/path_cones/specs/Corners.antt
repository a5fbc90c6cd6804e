-- Corners of a closed path.
use Rattle.std.specs.Prelude.{◌≡◌, ◌≢◌, ℕ, suc, ◌+◌, ◌-◌, ◌<◌, ◌≤◌, List}
use Rattle.pt_core.specs.ClosedWalk.{point_at}
use Rattle.pt_core.specs.declared.point.Point.{Point}
use Rattle.path_cones.specs.Straight.{vector_of}
use Rattle.path_cones.specs.declared.vector.Vector.{Vector}

-- the step that leaves the path's point number k
abbrev pub step_from : (ℕ → Point) → ℕ → Vector
step_from path k = vector_of (path k) (path (suc k))

-- d is the least number of steps, at least one, from point i to a corner: a point that the path
-- comes to by one step and leaves by a step of another direction
pub record IsNextCorner (points : List Point) (i d : ℕ) : Type 0 where
  pub some : 1 ≤ d
  pub turns : step_from (point_at points) (i + (d - 1)) ≢ step_from (point_at points) (i + d)
  pub none_before : (e : ℕ) → 1 ≤ e → e < d
      → step_from (point_at points) (i + (e - 1)) ≡ step_from (point_at points) (i + e)
