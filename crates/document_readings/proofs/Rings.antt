-- The rings of outlines are linear rings.
use Rattle.std.proofs.Common.{◌≡◌, ℕ, ◌-◌, ◌≤◌, ℤ, pos, negsuc, true, List, [], ◌∷◌, ◌++◌, map, reverse, length, get_or, ap, sym, ◌∙◌, Some, None, arith, length-append}
use Rattle.std.proofs.lemmas.Bool.Decides.{nat_tests}
use Rattle.std.proofs.lemmas.List.{get_or-reverse, length-map, length-reverse}
use Rattle.std.specs.Prelude.{◌==◌, ◌&&◌, nat_le, if◌then◌else◌}
use Rattle.pt_core.specs.declared.piece.Piece.{Piece}
use Rattle.pt_core.specs.declared.piece.Piece.TheVariants.{Corner, Curve}
use Rattle.pt_core.specs.declared.point.Point.{Point}
use Rattle.pt_core.specs.ClosedWalk.{origin}
use Rattle.pt_core.specs.Outlines.{end_of, start_from}
use Rattle.dxf_geojson.specs.Chords.{piece_points, points_from, chord_points}
use Rattle.document_readings.specs.Decimals.{Decimal, Position}
use Rattle.document_readings.specs.GeoJsonReading.{is_same_integer, is_same_decimal, is_same_position, ends_with, is_closed_ring, linear_ring}
use Rattle.document_readings.specs.Rings.{HasTwoPieces, position_of, ring_of, hole_ring_of}
use Rattle.document_readings.proofs.Chords.{chords_come_back, last_from, last_at}

-- each piece has at least two points behind its beginning
piece_long : (from : Point) (piece : Piece) → 2 ≤ length (piece_points from piece)
piece_long from (Corner at end) = omega arith
piece_long from (Curve first second end al) = omega arith

chords_long : (pieces : List Piece) → 2 ≤ length pieces → 5 ≤ length (chord_points pieces)
chords_long [] few = absurd (omega arith)
chords_long (one ∷ []) few = absurd (omega arith)
chords_long (one ∷ two ∷ pieces) few =
    let start = start_from origin (one ∷ two ∷ pieces) in
    let first = piece_long start one in
    let second = piece_long (end_of one) two in
    let rest = points_from (end_of two) pieces in
    omega (arith, length-append (piece_points start one) (piece_points (end_of one) two ++ rest), length-append (piece_points (end_of one) two) rest)

-- a position is the same as itself
same_number : (n : ℕ) → (n == n) ≡ true
same_number n = grind (arith, nat_tests)

same_integer : (z : ℤ) → is_same_integer z z ≡ true
same_integer (pos n) = same_number n
same_integer (negsuc n) = same_number n

same_decimal : (d : Decimal) → is_same_decimal d d ≡ true
same_decimal d = ap (λ t. t && (d.places == d.places)) (same_integer d.units) ∙ same_number d.places

same_position : (p : Position) → is_same_position p p ≡ true
same_position p = ap (λ t. t && is_same_decimal p.y p.y) (same_decimal p.x) ∙ same_decimal p.y

-- the last of points is the last of their positions
ends_by : (first : Position) (p : Point) (points : List Point) → position_of (last_from p points) ≡ first → ends_with first (position_of p) (map position_of points) ≡ true
ends_by first p [] same = ap (λ q. is_same_position q first) same ∙ same_position first
ends_by first p (q ∷ points) same = ends_by first q points same

closed_by : (points : List Point) → 5 ≤ length points → ((d : Point) → get_or points (length points - 1) d ≡ get_or points 0 d) → is_closed_ring (map position_of points) ≡ true
closed_by [] long back = absurd (omega arith)
closed_by (p ∷ points) long back =
    let e : length (p ∷ points) - 1 ≡ length points = omega arith in
    let last : last_from p points ≡ p = sym (last_at p points origin) ∙ ap (λ k. get_or (p ∷ points) k origin) (sym e) ∙ back origin in
    ends_by (position_of p) p points (ap position_of last)

at_least_four : (n : ℕ) → 5 ≤ n → nat_le 4 n ≡ true
at_least_four n long = grind (arith, nat_tests)

ring_is : (points : List Point) → 5 ≤ length points → ((d : Point) → get_or points (length points - 1) d ≡ get_or points 0 d) → linear_ring (map position_of points) ≡ Some (map position_of points)
ring_is points long back =
    let ring = map position_of points in
    ap (λ n. if nat_le 4 n && is_closed_ring ring then Some ring else None) (length-map points position_of)
    ∙ ap (λ b. if b && is_closed_ring ring then Some ring else None) (at_least_four (length points) long)
    ∙ ap (λ b. if b then Some ring else None) (closed_by points long back)

reverse_back : (points : List Point) → 5 ≤ length points → ((d : Point) → get_or points (length points - 1) d ≡ get_or points 0 d)
    → (d : Point) → get_or (reverse points) (length (reverse points) - 1) d ≡ get_or (reverse points) 0 d
reverse_back points long back d =
    let e : length (reverse points) - 1 ≡ length points - 1 = ap (λ n. n - 1) (length-reverse points) in
    let zero_place : length points - 1 - (length points - 1) ≡ 0 = omega arith in
    let last_place : length points - 1 - 0 ≡ length points - 1 = omega arith in
    ap (λ k. get_or (reverse points) k d) e
    ∙ get_or-reverse points (length points - 1) d (omega arith)
    ∙ ap (λ k. get_or points k d) zero_place
    ∙ sym (back d)
    ∙ ap (λ k. get_or points k d) (sym last_place)
    ∙ sym (get_or-reverse points 0 d (omega arith))

come_back : (pieces : List Piece) (d : Point) → get_or (chord_points pieces) (length (chord_points pieces) - 1) d ≡ get_or (chord_points pieces) 0 d
come_back pieces d = chords_come_back pieces d

pub ring_is_linear : (pieces : List Piece) → HasTwoPieces pieces → linear_ring (ring_of pieces) ≡ Some (ring_of pieces)
ring_is_linear pieces two = ring_is (chord_points pieces) (chords_long pieces two) (come_back pieces)

pub hole_ring_is_linear : (pieces : List Piece) → HasTwoPieces pieces → linear_ring (hole_ring_of pieces) ≡ Some (hole_ring_of pieces)
hole_ring_is_linear pieces two =
    let long = chords_long pieces two in
    let reversed_long : 5 ≤ length (reverse (chord_points pieces)) = (let e = length-reverse (chord_points pieces) in omega arith) in
    ring_is (reverse (chord_points pieces)) reversed_long (reverse_back (chord_points pieces) long (come_back pieces))
