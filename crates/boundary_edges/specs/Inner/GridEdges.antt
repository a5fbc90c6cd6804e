-- Lines on a page, and where upright ones stand.
use Rattle.std.specs.Prelude.{ℕ, ◌<◌, ◌≤◌, Option, Some, None}
use Rattle.boundary_edges.specs.GridEdges.{GridEdge}
use Rattle.boundary_edges.specs.GridEdges.GridEdge.{upright, level}

-- the line is a side of a pixel of a page of this width and height
abbrev pub IsLineOn : ℕ → ℕ → GridEdge → Type 0
IsLineOn width height (upright x y) = (x ≤ width) × (y < height)
IsLineOn width height (level x y) = (x < width) × (y ≤ height)

-- the column and the row of an upright line
abbrev pub place_of : GridEdge → Option (ℕ × ℕ)
place_of (upright x y) = Some (x, y)
place_of (level x y) = None
