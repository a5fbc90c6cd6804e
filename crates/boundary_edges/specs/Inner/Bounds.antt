-- Paths that lie on a page, as do the pixels inside.
use Rattle.std.specs.Prelude.{ℕ, pos, ◌≤ℤ◌, All}
use Rattle.pt_core.specs.ClosedWalk.{point_at, IsClosedWalk}
use Rattle.pt_core.specs.declared.path.Path.{Path}
use Rattle.bit_image.specs.Image.{Fits}
use Rattle.boundary_edges.specs.Inside.{inside}
use Rattle.boundary_edges.specs.Bounds.{IsCornerOf}

-- a closed walk over the corners of a page of this width and height, that starts above row 0's lower sides, with
-- nothing inside that lies off the page
pub record IsPathOn (width height : ℕ) (path : Path) : Type 0 where
  pub closed : IsClosedWalk path.points
  pub on_page : All (IsCornerOf width height) path.points
  pub starts_above : pos 1 ≤ℤ (point_at path.points 0).y
  pub inside_on_page : Fits (inside path.points) width height
