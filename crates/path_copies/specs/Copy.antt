-- Paths that are copies of one another, as the outlines of one letter on two places of a page.
use Rattle.std.specs.Prelude.{◌≡◌, ℕ, List, length}
use Rattle.pt_core.specs.declared.point.Point.{Point}
use Rattle.prefix_moments.specs.Sums.{rightward_of, above_of}

-- the two paths have as many points, and from the first point of each they go the same way
pub record IsCopy (points other : List Point) : Type 0 where
  pub count : length points ≡ length other
  pub right : (k : ℕ) → rightward_of points 0 k ≡ rightward_of other 0 k
  pub above : (k : ℕ) → above_of points 0 k ≡ above_of other 0 k
