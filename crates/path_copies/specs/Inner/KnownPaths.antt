-- Paths that are known with their polygons.
use Rattle.std.specs.Prelude.{◌≡◌}
use Rattle.polygon_search.specs.Polygon.{IsBestPolygon, total_penalty}
use Rattle.pt_core.specs.declared.polygon.Polygon.{Polygon}
use Rattle.path_copies.specs.declared.known.KnownPath.{KnownPath}

-- the polygon is the path's best one, and its cost is what its penalties are together
pub record HasPolygon (known : KnownPath Polygon) : Type 0 where
  pub best : IsBestPolygon known.points known.found.at
  pub cost : known.found.cost ≡ total_penalty known.points known.found.at
