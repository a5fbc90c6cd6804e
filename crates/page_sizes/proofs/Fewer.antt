-- A path's polygon has no more vertices than the path has points, and its outline no more pieces.
use Rattle.std.proofs.Common.{◌≡◌, ℕ, ◌+◌, ◌-◌, ◌≤◌, ◌<◌, Bool, true, false, List, [], ◌∷◌, All, get_or, length, sum_by, zip, ap, ◌∙◌, arith}
use Rattle.std.specs.List.{AllZip}
use Rattle.std.specs.Prelude.{slice_index}
use Rattle.std.proofs.lemmas.List.Elements.{All-head, All-tail}
use Rattle.std.proofs.lemmas.List.FromFn.{length-map-range_with_len}
use Rattle.std.proofs.lemmas.List.Sums.{sum_by-cons}
use Rattle.std.proofs.lemmas.Option.{get_or_from_slice_get}
use Rattle.pt_core.specs.declared.path.Path.{Path}
use Rattle.pt_core.specs.declared.piece.Piece.{Piece}
use Rattle.pt_core.specs.declared.point.Point.{Point}
use Rattle.pt_core.specs.declared.polygon.Polygon.{Polygon}
use Rattle.pt_core.specs.declared.settings.Settings.{Settings}
use Rattle.corner_smooth.specs.Corner.{corner_piece, pieces_of}
use Rattle.least_walk.specs.LeastWalk.{IsWalk, Step, steps_from}
use Rattle.curve_join.specs.Bends.{bends_of}
use Rattle.curve_join.specs.Choice.{IsBestJoin, MayBeOne, run_piece}
use Rattle.curve_join.specs.Outline.{Outline, outline}
use Rattle.page_trace.specs.Trace.{AreVerticesOf, IsOutlineOf, IsOutlineWith, IsPolygonOf, tolerance_of}
use Rattle.page_trace.proofs.Segments.{few_at_most}
use Rattle.page_sizes.specs.Edges.{point_count}

-- a list that rises has no more steps than it rises by
rises_to : (i : ℕ) (rest : List ℕ) (size : ℕ) → All (λ (s : Step). s.from < s.to) (steps_from i rest) → get_or (i ∷ rest) (length rest) 0 ≡ size → i + length rest ≤ size
rises_to i [] size rises last = omega (arith, last)
rises_to i (j ∷ rest) size rises last =
    let step : Step = record { from = i; to = j } in
    let here = All-head (λ (s : Step). s.from < s.to) step (steps_from j rest) rises in
    let more = rises_to j rest size (All-tail (λ (s : Step). s.from < s.to) step (steps_from j rest) rises) last in
    omega arith

walk_short : (size : ℕ) (is_allowed : ℕ → ℕ → Type 0) (walk : List ℕ) → IsWalk size is_allowed walk → length walk - 1 ≤ size
walk_short size is_allowed [] walk = omega arith
walk_short size is_allowed (i ∷ rest) walk =
    let place : length (i ∷ rest) - 1 ≡ length rest = omega arith in
    let last = ap (λ k. get_or (i ∷ rest) k 0) place in
    let most = rises_to i rest size walk.rises (cc_last last (get_or_from_slice_get (i ∷ rest) (length (i ∷ rest) - 1) size 0 walk.last)) in
    omega arith
  where
    cc_last : {a b c : ℕ} → a ≡ b → a ≡ c → b ≡ c
    cc_last e f = cc

joined_few : (tol : ℕ) (o : Outline) (pieces : List Piece) → IsBestJoin tol o pieces → length pieces ≤ length o.pieces
joined_few tol o pieces best =
    let count : length pieces ≡ length best.cut - 1 =
    ap length best.joined ∙ length-map-range_with_len (λ c. run_piece o.pieces (bends_of o) (slice_index best.cut c) (slice_index best.cut (c + 1))) 0 (length best.cut - 1) in
    omega (arith, walk_short (length o.pieces) (MayBeOne tol (bends_of o)) best.cut best.least.is_walk)

outline_few : (joins : Bool) (settings : Settings) (vertices : List Point) (pieces : List Piece) → IsOutlineWith joins settings vertices pieces → length pieces ≤ length vertices
outline_few true settings vertices pieces is =
    let count : length pieces ≡ length vertices = ap length is ∙ length-map-range_with_len (corner_piece settings.alphamax vertices) 0 (length vertices) in
    omega arith
outline_few false settings vertices pieces is =
    let count : length (pieces_of settings.alphamax vertices) ≡ length vertices = length-map-range_with_len (corner_piece settings.alphamax vertices) 0 (length vertices) in
    omega (arith, joined_few (tolerance_of settings.tolerance) (outline vertices (pieces_of settings.alphamax vertices)) pieces is)

-- an outline for each path, and together no more pieces than points
pub record AreFew (paths : List Path) (outlines : List (List Piece)) : Type 0 where
  pub each_path : length outlines ≡ length paths
  pub together : sum_by length outlines ≤ point_count paths

pub outlines_few : (settings : Settings) (paths : List Path) (polygons : List Polygon) (lists : List (List Point)) (outlines : List (List Piece)) → AllZip (IsPolygonOf settings) paths polygons
    → AllZip AreVerticesOf (zip paths polygons) lists → AllZip (IsOutlineOf settings) lists outlines → AreFew paths outlines
outlines_few settings [] [] [] [] are on is = record { each_path = omega arith; together = omega arith }
outlines_few settings [] [] [] (pieces ∷ outlines) are on is = absurd is
outlines_few settings [] [] (vertices ∷ lists) outlines are on is = absurd on
outlines_few settings [] (polygon ∷ polygons) lists outlines are on is = absurd are
outlines_few settings (path ∷ paths) [] lists outlines are on is = absurd are
outlines_few settings (path ∷ paths) (polygon ∷ polygons) [] outlines are on is = absurd on
outlines_few settings (path ∷ paths) (polygon ∷ polygons) (vertices ∷ lists) [] are on is = absurd is
outlines_few settings (path ∷ paths) (polygon ∷ polygons) (vertices ∷ lists) (pieces ∷ outlines) are on is =
    let rest = outlines_few settings paths polygons lists outlines are.1 on.1 is.1 in
    let few = few_at_most settings.cyclic path polygon are.0 in
    let count = (on.0).count in
    let most = outline_few settings.long_curve settings vertices pieces is.0 in
    record {
      each_path = omega (arith, rest.each_path);
      together = rw (sum_by-cons length pieces outlines, sum_by-cons (λ (p : Path). length p.points) path paths) (omega (arith, rest.together));
    }

pub polygons_few : (settings : Settings) (paths : List Path) (polygons : List Polygon) → AllZip (IsPolygonOf settings) paths polygons → AllZip (λ (path : Path) (polygon : Polygon). length polygon.at ≤ length path.points) paths polygons
polygons_few settings [] [] are = are
polygons_few settings [] (polygon ∷ polygons) are = absurd are
polygons_few settings (path ∷ paths) [] are = absurd are
polygons_few settings (path ∷ paths) (polygon ∷ polygons) are = (few_at_most settings.cyclic path polygon are.0, polygons_few settings paths polygons are.1)
