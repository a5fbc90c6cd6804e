-- The outline of a moved path.
use Rattle.std.proofs.Common.{◌≡◌, ℕ, ℤ, ◌-ℤ◌, ◌<◌, ◌⊎◌, inl, inr, Bool, true, false, List, [], ◌∷◌, ◌++◌, length, get_or, map, sym, ap, ◌∙◌, subst, arith}
use Rattle.std.proofs.lemmas.List.FromFn.{length-map-range_with_len}
use Rattle.std.specs.List.{All, Contains}
use Rattle.std.specs.Prelude.{slice_index_or}
use Rattle.std.proofs.lemmas.List.Elements.{All-push}
use Rattle.std.proofs.Math.Nat.{mod-eq_of_lt}
use Rattle.pt_core.specs.ClosedWalk.{origin, point_at}
use Rattle.pt_core.specs.declared.path.Path.{Path}
use Rattle.pt_core.specs.declared.piece.Piece.{Piece}
use Rattle.pt_core.specs.declared.point.Point.{Point}
use Rattle.pt_core.specs.declared.polygon.Polygon.{Polygon}
use Rattle.pt_core.specs.declared.settings.Settings.{Settings}
use Rattle.least_walk.specs.LeastWalk.{IsBefore, Step, steps_of, total_cost}
use Rattle.straight_paths.specs.Straight.{IsPossible}
use Rattle.polygon_search.specs.Polygon.{penalty_of}
use Rattle.cyclic_optimal.specs.Cyclic.{IsCyclicPolygon, IsLeastCyclic, once_round, round_penalty}
use Rattle.corner_smooth.specs.Corner.{corner_piece, pieces_of}
use Rattle.curve_join.specs.Choice.{IsBestJoin}
use Rattle.curve_join.specs.Outline.{outline}
use Rattle.page_trace.specs.Inner.Drawing.{IsOutlineAlong}
use Rattle.page_trace.specs.Inner.KnownOutlines.{AreOfKnown, HasOutline}
use Rattle.page_trace.specs.Trace.{IsOutlineOf, IsOutlineWith, IsPolygonOf, IsPolygonWith, tolerance_of}
use Rattle.path_copies.specs.Copy.{IsCopy}
use Rattle.path_copies.proofs.Same.{best_too, copy_back, costs_same, penalties_same, possible_too}
use Rattle.outline_copies.specs.Moved.{AreMoved, in_units, moved_by, piece_moved_by}
use Rattle.path_copies.specs.declared.known.KnownPath.{KnownPath}
use Rattle.outline_copies.proofs.Copies.{first_moved, moved_copy}
use Rattle.outline_copies.proofs.Joins.{joins_moved}
use Rattle.outline_copies.proofs.Pieces.{pieces_moved}
use Rattle.outline_copies.proofs.Vertices.{vertices_moved}

-- ---- the polygon

cyclic_too : (points other : List Point) (at : List ℕ) → IsCopy points other → IsCyclicPolygon points at → IsCyclicPolygon other at
cyclic_too points other at copy is = record {
  some = is.some;
  within = λ k d h. (let below = is.within k d h in omega (arith, copy.count));
  possible =
      (let P : ℕ → Type 0 = λ n. All (λ (step : Step). IsPossible other step.from step.to) (steps_of (once_round n at)) in
      subst P copy.count (λ k d h.
      possible_too points other copy (get_or (steps_of (once_round (length points) at)) k d).from (get_or (steps_of (once_round (length points) at)) k d).to
      (is.possible k d h)));
}

least_cyclic_too : (points other : List Point) (at : List ℕ) → IsCopy points other → IsLeastCyclic points at → IsLeastCyclic other at
least_cyclic_too points other at copy least =
    let back = copy_back points other copy in
    record {
      is_polygon = cyclic_too points other at copy least.is_polygon;
      none_before = λ rival is before. least.none_before rival (cyclic_too other points rival back is)
          (subst (λ (cost : ℕ → ℕ → ℕ). IsBefore cost (once_round (length points) rival) (once_round (length points) at)) (costs_same other points back)
          (subst (λ (n : ℕ). IsBefore (penalty_of other) (once_round n rival) (once_round n at)) back.count before));
    }

same_round : (points other : List Point) (at : List ℕ) → IsCopy points other → round_penalty points at ≡ round_penalty other at
same_round points other at copy =
    ap (λ (cost : ℕ → ℕ → ℕ). total_cost cost (once_round (length points) at)) (costs_same points other copy)
    ∙ ap (λ (n : ℕ). total_cost (penalty_of other) (once_round n at)) copy.count

polygon_too : (cyclic : Bool) (path other : Path) (polygon : Polygon) → IsCopy path.points other.points
    → IsPolygonWith cyclic path polygon → IsPolygonWith cyclic other polygon
polygon_too true path other polygon copy is = record {
  best = least_cyclic_too path.points other.points polygon.at copy is.best;
  cost = is.cost ∙ same_round path.points other.points polygon.at copy;
}
polygon_too false path other polygon copy is = record {
  best = best_too path.points other.points polygon.at copy is.best;
  cost = is.cost ∙ penalties_same path.points other.points copy polygon.at;
}

-- ---- the pieces round its vertices

round_moved : (long : Bool) (settings : Settings) (right up : ℤ) (vertices : List Point) (pieces : List Piece)
    → IsOutlineWith long settings vertices pieces
    → IsOutlineWith long settings (map (moved_by right up) vertices) (map (piece_moved_by right up) pieces)
round_moved true settings right up vertices pieces is =
    ap (map (piece_moved_by right up)) is ∙ sym (pieces_moved right up settings.alphamax vertices)
round_moved false settings right up vertices pieces is =
    let smooth = pieces_of settings.alphamax vertices in
    let one_each : length smooth ≡ length vertices = length-map-range_with_len (corner_piece settings.alphamax vertices) 0 (length vertices) in
    subst (λ ps. IsBestJoin (tolerance_of settings.tolerance) (outline (map (moved_by right up) vertices) ps) (map (piece_moved_by right up) pieces))
    (sym (pieces_moved right up settings.alphamax vertices))
    (joins_moved right up (tolerance_of settings.tolerance) vertices smooth one_each pieces is)

pub same_polygon : (settings : Settings) (right up : ℤ) (path other : Path) (polygon : Polygon) → AreMoved right up path.points other.points
    → IsPolygonOf settings path polygon → IsPolygonOf settings other polygon
same_polygon settings right up path other polygon moved is =
    polygon_too settings.cyclic path other polygon (moved_copy right up path.points other.points moved) is

pub outline_moved_round : (settings : Settings) (right up : ℤ) (vertices : List Point) (pieces : List Piece) → IsOutlineOf settings vertices pieces
    → IsOutlineOf settings (map (moved_by right up) vertices) (map (piece_moved_by right up) pieces)
outline_moved_round settings right up vertices pieces is = round_moved settings.long_curve settings right up vertices pieces is

pub outline_moved_along : (settings : Settings) (right up : ℤ) (path other : Path) (pieces : List Piece)
    → AreMoved right up path.points other.points → IsOutlineAlong settings path pieces
    → IsOutlineAlong settings other (map (piece_moved_by (in_units right) (in_units up)) pieces)
outline_moved_along settings right up path other pieces moved is = record {
  polygon = is.polygon;
  vertices = map (moved_by (in_units right) (in_units up)) is.vertices;
  fitted = same_polygon settings right up path other is.polygon moved is.fitted;
  adjusted = vertices_moved right up path.points other.points (is.polygon).at is.vertices moved is.adjusted;
  round = outline_moved_round settings (in_units right) (in_units up) is.vertices pieces is.round;
}

-- ---- what is known of other paths

-- pieces that are taken from a known path go along this one
pub taken_along : (settings : Settings) (path : Path) (all : List (KnownPath (List Piece))) (points : List Point) (pieces : List Piece)
    → points ≡ path.points → All (HasOutline settings) all → AreOfKnown all points pieces → IsOutlineAlong settings path pieces
taken_along settings path all points pieces of_path have taken =
    let one : HasOutline settings taken.known = subst (HasOutline settings) taken.among.2 (have taken.among.0 taken.known taken.among.1) in
    let move : AreMoved taken.right taken.up (one.path).points path.points =
    subst (λ (ps : List Point). AreMoved taken.right taken.up ps path.points) (sym one.points)
    (subst (λ (ps : List Point). AreMoved taken.right taken.up (taken.known).points ps) of_path taken.are_moved) in
    subst (IsOutlineAlong settings path) (sym taken.is)
    (outline_moved_along settings taken.right taken.up one.path path (taken.known).found move one.along)

-- and what is kept of it has its outline
pub known_more : (settings : Settings) (path : Path) (before after : List (KnownPath (List Piece))) (points : List Point) (pieces : List Piece)
    → points ≡ path.points → IsOutlineAlong settings path pieces → All (HasOutline settings) before
    → (after ≡ before) ⊎ (after ≡ before ++ record { points = points; found = pieces } ∷ []) → All (HasOutline settings) after
known_more settings path before after points pieces of_path along have (inl same) = subst (All (HasOutline settings)) (sym same) have
known_more settings path before after points pieces of_path along have (inr more) =
    subst (All (HasOutline settings)) (sym more)
    (All-push (HasOutline settings) before (record { points = points; found = pieces }) have (record { path = path; points = sym of_path; along = along }))

-- the first point of a path that is a copy lies as far from the known one's
first_of : (points : List Point) → 0 < length points → point_at points 0 ≡ slice_index_or points 0 origin
first_of points some = ap (λ n. slice_index_or points n origin) (mod-eq_of_lt some)

pub of_known : (all : List (KnownPath (List Piece))) (known : KnownPath (List Piece)) (start points : List Point) (pieces : List Piece) (right up : ℤ)
    → 0 < length points → start ≡ known.points → Contains all known → IsCopy known.points points
    → right ≡ in_units ((slice_index_or points 0 origin).x -ℤ (slice_index_or start 0 origin).x)
    → up ≡ in_units ((slice_index_or points 0 origin).y -ℤ (slice_index_or start 0 origin).y)
    → pieces ≡ map (piece_moved_by right up) known.found → AreOfKnown all points pieces
of_known all known start points pieces right up some of_path among copy is_right is_up is =
    let here = sym (first_of points some) in
    let there = ap (λ (ps : List Point). slice_index_or ps 0 origin) of_path ∙ sym (first_of known.points (omega (arith, copy.count, some))) in
    let far_right : right ≡ in_units ((point_at points 0).x -ℤ (point_at known.points 0).x) =
    is_right ∙ ap (λ (p : Point). in_units (p.x -ℤ (slice_index_or start 0 origin).x)) here ∙ ap (λ (p : Point). in_units ((point_at points 0).x -ℤ p.x)) there in
    let far_up : up ≡ in_units ((point_at points 0).y -ℤ (point_at known.points 0).y) =
    is_up ∙ ap (λ (p : Point). in_units (p.y -ℤ (slice_index_or start 0 origin).y)) here ∙ ap (λ (p : Point). in_units ((point_at points 0).y -ℤ p.y)) there in
    record {
      known = known;
      right = (point_at points 0).x -ℤ (point_at known.points 0).x;
      up = (point_at points 0).y -ℤ (point_at known.points 0).y;
      among = among;
      are_moved = first_moved known.points points copy;
      is = is ∙ ap (λ r. map (piece_moved_by r up) known.found) far_right
          ∙ ap (λ u. map (piece_moved_by (in_units ((point_at points 0).x -ℤ (point_at known.points 0).x)) u) known.found) far_up;
    }
