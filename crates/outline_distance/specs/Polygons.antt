-- Polygons that outlines may go round.
use Rattle.std.specs.Prelude.{ℕ, ◌⊎◌, List}
use Rattle.pt_core.specs.declared.point.Point.{Point}
use Rattle.polygon_search.specs.Polygon.{IsPolygon}
use Rattle.cyclic_optimal.specs.Cyclic.{IsCyclicPolygon}

-- the points with these numbers, in order, are the vertices of a polygon through the first point, or of a cyclic one
abbrev pub IsAnyPolygon : List Point → List ℕ → Type 0
IsAnyPolygon points at = IsPolygon points at ⊎ IsCyclicPolygon points at
