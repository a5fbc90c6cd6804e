-- Corners of the grid, as points of the plane: corner (x, y) is the lower left corner of pixel (x, y).
use Rattle.std.specs.Prelude.{pos, ◌≤ℤ◌}
use Rattle.pt_core.specs.declared.point.Point.{Point}

-- both coordinates are 0 to 32767, so the corner lies on a page or not far from one
pub record IsCorner (at : Point) : Type 0 where
  pub least_x : pos 0 ≤ℤ at.x
  pub most_x : at.x ≤ℤ pos 32767
  pub least_y : pos 0 ≤ℤ at.y
  pub most_y : at.y ≤ℤ pos 32767
