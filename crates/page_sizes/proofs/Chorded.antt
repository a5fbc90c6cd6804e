-- How long drawings of chords are, by the pieces of their outlines.
use Rattle.std.proofs.Common.{◌≡◌, ℕ, ◌+◌, ◌-◌, ◌*◌, ◌/◌, ◌^◌, ◌≤◌, ℤ, pos, negsuc, unsigned_abs, List, [], ◌∷◌, ◌++◌, All, codes, decimal, flat_map, get_or, length, length-append, length-take, reverse, sum_by, take, subst, arith}
use Rattle.std.specs.List.{join_by}
use Rattle.std.proofs.lemmas.List.{length-reverse}
use Rattle.std.proofs.lemmas.Fmt.{length-decimal-le}
use Rattle.std.proofs.lemmas.List.Elements.{All-take}
use Rattle.std.proofs.lemmas.List.Sums.{sum_by-cons, sum_by-le, sum_by-le-sum_by}
use Rattle.pt_core.specs.ClosedWalk.{origin}
use Rattle.pt_core.specs.FixedText.{fixed_text, minus_text}
use Rattle.pt_core.specs.Floor.{rounded}
use Rattle.pt_core.specs.Outlines.{end_of, outline_at, start_from}
use Rattle.pt_core.specs.declared.piece.Piece.{Piece}
use Rattle.pt_core.specs.declared.piece.Piece.TheVariants.{Corner, Curve}
use Rattle.pt_core.specs.declared.point.Point.{Point}
use Rattle.pt_core.specs.declared.trace.Group.{Group}
use Rattle.pt_core.specs.declared.trace.Trace.{Trace}
use Rattle.pt_core.proofs.FloorDivision.{rounded_most}
use Rattle.turn_policies.specs.Majority.{sum_below}
use Rattle.path_tree.specs.Groups.{groups_of}
use Rattle.dxf_geojson.specs.Chords.{chord_points, piece_points, points_from}
use Rattle.dxf_geojson.specs.DxfText.{dxf_text, pixels_text, polyline_text, vertex_text}
use Rattle.dxf_geojson.specs.GeoJsonText.{feature_text, features_text, geojson_text, hole_text, position_text, ring_text}
use Rattle.document_readings.specs.Places.{AreInReach, IsPieceInReach}
use Rattle.document_readings.proofs.Chords.{IsRoundable, chords_within, outline_chords_within}
use Rattle.document_readings.proofs.GeoJsonDocuments.{all_reversed}
use Rattle.page_sizes.proofs.Drawn.{CanBeDrawn}
use Rattle.page_sizes.proofs.Grouped.{group_weight, groups_weigh}
use Rattle.page_sizes.proofs.Penned.{weights_at}
use Rattle.page_sizes.proofs.Weights.{texts_most}

minus_one : (z : ℤ) → length (minus_text z) ≤ 1
minus_one (pos n) = omega arith
minus_one (negsuc n) = omega arith

thousandths_most : (t : ℤ) → unsigned_abs t ≤ 2 ^ 40 → length (fixed_text t) ≤ 15
thousandths_most t small =
    let whole : length (decimal (unsigned_abs t / 1000)) ≤ 10 = length-decimal-le 10 (unsigned_abs t / 1000) (omega arith) (omega arith) (omega arith) in
    let minus = minus_one t in
    simp length-append (omega arith)

pixels_most : (c : ℤ) → unsigned_abs c ≤ 2 ^ 40 → length (pixels_text c) ≤ 15
pixels_most c small = thousandths_most (rounded c 1000) (rounded_most c 1000 small (omega arith))

vertex_most : (p : Point) → IsRoundable p → length (vertex_text p) ≤ 51
vertex_most p within =
    let x = simp length-append at pixels_most p.x within.x in
    let y = simp length-append at pixels_most p.y within.y in
    simp length-append (omega arith)

position_most : (p : Point) → IsRoundable p → length (position_text p) ≤ 33
position_most p within =
    let x = simp length-append at pixels_most p.x within.x in
    let y = simp length-append at pixels_most p.y within.y in
    simp length-append (omega arith)

piece_few : (from : Point) (piece : Piece) → length (piece_points from piece) ≤ 8
piece_few from (Corner at end) = omega arith
piece_few from (Curve first second end al) = omega arith

points_few : (from : Point) (pieces : List Piece) → length (points_from from pieces) ≤ 8 * length pieces
points_few from [] = omega arith
points_few from (piece ∷ pieces) =
    let here = piece_few from piece in
    let rest = points_few (end_of piece) pieces in
    rw (length-append (piece_points from piece) (points_from (end_of piece) pieces)) (omega arith)

chords_few : (pieces : List Piece) → length (chord_points pieces) ≤ 8 * length pieces + 1
chords_few pieces = omega (arith, points_few (start_from origin pieces) pieces)

-- a text of so many bytes for each of these
each_most : {A : Type 0} (text : A → List ℕ) (most : ℕ) (xs : List A) → All (λ x. length (text x) ≤ most) xs → length (flat_map text xs) ≤ length xs * most
each_most text most xs all =
    let texts = texts_most text (λ x. most) xs all in
    omega (arith, sum_by-le (λ x. most) most xs (λ k d short. omega arith))

polyline_most : (pieces : List Piece) → All IsPieceInReach pieces → length (polyline_text pieces) ≤ 408 * length pieces + 34
polyline_most pieces near =
    let points = chord_points pieces in
    let count = length points in
    let few : length (take (count - 1) points) ≤ 8 * length pieces = omega (arith, chords_few pieces, length-take (count - 1) points) in
    let texts = each_most vertex_text 51 (take (count - 1) points) (λ k d short. vertex_most (get_or (take (count - 1) points) k d) (All-take IsRoundable (count - 1) points (chords_within pieces near) k d short)) in
    simp length-append (omega arith)

pub dxf_most : (trace : Trace) → AreInReach trace.outlines → length (dxf_text trace) ≤ 408 * sum_by length trace.outlines + 34 * length trace.outlines + 36
dxf_most trace near =
    let texts = texts_most polyline_text (λ pieces. 408 * length pieces + 34) trace.outlines (λ k d short. polyline_most (get_or trace.outlines k d) (near k d short)) in
    let sums = parted trace.outlines in
    rw (length-append (codes "0\nSECTION\n2\nENTITIES\n" ++ flat_map polyline_text trace.outlines) (codes "0\nENDSEC\n0\nEOF\n"), length-append (codes "0\nSECTION\n2\nENTITIES\n") (flat_map polyline_text trace.outlines)) (omega arith)
  where
    parted : (outlines : List (List Piece)) → sum_by (λ pieces. 408 * length pieces + 34) outlines ≡ 408 * sum_by length outlines + 34 * length outlines
    parted [] = omega arith
    parted (pieces ∷ outlines) =
        let rest = parted outlines in
        rw (sum_by-cons (λ p. 408 * length p + 34) pieces outlines, sum_by-cons length pieces outlines, rest) (omega arith)

-- texts with one of so many bytes between two
joined_most : {A : Type 0} (text : A → List ℕ) (between : List ℕ) (xs : List A) → length (join_by text between xs) ≤ sum_by (λ x. length (text x) + length between) xs
joined_most text between [] = omega arith
joined_most text between (x ∷ xs) =
    let rest = texts_most (λ y. between ++ text y) (λ y. length (text y) + length between) xs (λ k d short. omega (arith, length-append between (text (get_or xs k d)))) in
    rw (length-append (text x) (flat_map (λ y. between ++ text y) xs), sum_by-cons (λ y. length (text y) + length between) x xs) (omega arith)

sum_most : {A : Type 0} (f : A → ℕ) (most : ℕ) (xs : List A) → All (λ x. f x ≤ most) xs → sum_by f xs ≤ most * length xs
sum_most f most xs all = omega (arith, sum_by-le f most xs all)

ring_most : (points : List Point) → All IsRoundable points → length (ring_text points) ≤ 34 * length points + 2
ring_most points within =
    let joined = joined_most position_text (codes ",") points in
    let most = sum_most (λ p. length (position_text p) + length (codes ",")) 34 points (λ k d short. let one = position_most (get_or points k d) (within k d short) in omega arith) in
    rw (length-append (codes "[" ++ join_by position_text (codes ",") points) (codes "]"), length-append (codes "[") (join_by position_text (codes ",") points)) (omega arith)

outer_most : (outlines : List (List Piece)) (i : ℕ) → AreInReach outlines → length (ring_text (chord_points (outline_at outlines i))) ≤ 272 * length (outline_at outlines i) + 36
outer_most outlines i near =
    let ring = ring_most (chord_points (outline_at outlines i)) (outline_chords_within outlines i near) in
    let few = chords_few (outline_at outlines i) in
    omega arith

hole_most : (outlines : List (List Piece)) (i : ℕ) → AreInReach outlines → length (hole_text (outline_at outlines i)) ≤ 37 + 272 * length (outline_at outlines i)
hole_most outlines i near =
    let points = chord_points (outline_at outlines i) in
    let ring = ring_most (reverse points) (all_reversed IsRoundable points (outline_chords_within outlines i near)) in
    let few = chords_few (outline_at outlines i) in
    rw (length-append (codes ",") (ring_text (reverse points))) (omega (arith, length-reverse points))

feature_most : (outlines : List (List Piece)) (group : Group) → AreInReach outlines → length (feature_text outlines group) + 2 ≤ group_weight 82 (λ i. 37 + 272 * length (outline_at outlines i)) group
feature_most outlines group near =
    let outer = outer_most outlines group.outer near in
    let holes = texts_most (λ hole. hole_text (outline_at outlines hole)) (λ i. 37 + 272 * length (outline_at outlines i)) group.holes (λ k d short. hole_most outlines (get_or group.holes k d) near) in
    let head = codes "{\"type\":\"Feature\",\"properties\":{},\"geometry\":{\"type\":\"Polygon\",\"coordinates\":[" in
    let ring = ring_text (chord_points (outline_at outlines group.outer)) in
    let more = flat_map (λ hole. hole_text (outline_at outlines hole)) group.holes in
    rw (length-append (head ++ ring ++ more) (codes "]}}"), length-append (head ++ ring) more, length-append head ring) (omega arith)

features_most : (outlines : List (List Piece)) (groups : List Group) → AreInReach outlines → length (features_text outlines groups) ≤ sum_by (group_weight 82 (λ i. 37 + 272 * length (outline_at outlines i))) groups + 1
features_most outlines [] near = omega arith
features_most outlines (first ∷ more) near =
    let joined = joined_most (feature_text outlines) (codes ",\n") (first ∷ more) in
    let most = sum_by-le-sum_by (λ group. length (feature_text outlines group) + length (codes ",\n")) (group_weight 82 (λ i. 37 + 272 * length (outline_at outlines i))) (first ∷ more) (λ group. feature_most outlines group near) in
    rw (length-append (join_by (feature_text outlines) (codes ",\n") (first ∷ more)) (codes "\n")) (omega arith)

pub geojson_most : (trace : Trace) → CanBeDrawn trace → length (geojson_text trace) ≤ 272 * sum_by length trace.outlines + 119 * length trace.outlines + 45
geojson_most trace can =
    let features = features_most trace.outlines (groups_of trace.paths) can.in_reach in
    let weighs = groups_weigh trace.paths 82 (λ i. 37 + 272 * length (outline_at trace.outlines i)) in
    let all = subst (λ n. sum_below n (λ i. 82 + (37 + 272 * length (outline_at trace.outlines i))) ≡ 272 * sum_by length trace.outlines + 119 * length trace.outlines) can.each_path (weights_at 82 37 272 trace.outlines) in
    let head = codes "{\"type\":\"FeatureCollection\",\"features\":[\n" in
    let text = features_text trace.outlines trace.groups in
    rw (length-append (head ++ text) (codes "]}\n"), length-append head text, can.groups) (omega arith)
