-- Corners of the pixels of a page, as points.
use Rattle.std.specs.Prelude.{ℕ, pos, ◌≤ℤ◌}
use Rattle.pt_core.specs.declared.point.Point.{Point}

-- the point is a corner of a pixel of a page of this width and height
pub record IsCornerOf (width height : ℕ) (p : Point) : Type 0 where
  pub from_left : pos 0 ≤ℤ p.x
  pub to_right : p.x ≤ℤ pos width
  pub from_bottom : pos 0 ≤ℤ p.y
  pub to_top : p.y ≤ℤ pos height
