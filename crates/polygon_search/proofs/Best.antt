-- A path has one best polygon.
use Rattle.std.proofs.Common.{◌≡◌, ℕ, List, [], ◌∷◌, length}
use Rattle.std.proofs.lemmas.List.{append_cancel_right}
use Rattle.pt_core.specs.declared.point.Point.{Point}
use Rattle.least_walk.specs.LeastWalk.{walk_from}
use Rattle.least_walk.proofs.OneLeast.{one_least}
use Rattle.polygon_search.specs.Polygon.{IsSegment, IsBestPolygon, penalty_of}

pub one_best : (points : List Point) (at other : List ℕ) → IsBestPolygon points at → IsBestPolygon points other → at ≡ other
one_best points at other best as_good =
    let same = one_least (length points) (IsSegment points) (penalty_of points) (walk_from at (length points)) (walk_from other (length points)) best as_good in
    append_cancel_right at other (length points ∷ []) same
