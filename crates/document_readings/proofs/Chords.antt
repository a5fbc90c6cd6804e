-- Chord points are in reach, and come back to their beginning.
use Rattle.std.proofs.Common.{◌≡◌, ℕ, ◌+◌, ◌-◌, ◌*◌, ◌/◌, ◌^◌, ◌<◌, ◌≤◌, ℤ, pos, negsuc, ◌+ℤ◌, ◌*ℤ◌, unsigned_abs, List, [], ◌∷◌, ◌++◌, length, get_or, refl, ap, ◌∙◌, arith, inl, inr}
use Rattle.std.proofs.lemmas.Int.{ints}
use Rattle.std.proofs.lemmas.Bool.{cases_lt}
use Rattle.std.proofs.lemmas.List.{get_or_past}
use Rattle.std.proofs.lemmas.List.Elements.{All-head, All-tail, All-nil, All-cons, All-append}
use Rattle.std.specs.Prelude.{All}
use Rattle.pt_core.specs.declared.piece.Piece.{Piece}
use Rattle.pt_core.specs.declared.piece.Piece.TheVariants.{Corner, Curve}
use Rattle.pt_core.specs.declared.point.Point.{Point}
use Rattle.pt_core.specs.ClosedWalk.{origin}
use Rattle.pt_core.specs.Floor.{floor_of, rounded}
use Rattle.pt_core.specs.Outlines.{end_of, start_from, outline_at}
use Rattle.pt_core.proofs.FloorDivision.{rounded_most}
use Rattle.pt_core.proofs.Sizes.{product_most, quotient_most}
use Rattle.dxf_geojson.specs.Chords.{mean_of, mean_point, curve_point, curve_points, piece_points, points_from, chord_points}
use Rattle.document_readings.specs.Places.{IsPointInReach, IsPieceInReach, AreInReach}
use Rattle.document_readings.proofs.Commands.{same_start}
use Rattle.document_readings.proofs.Nearness.{end_near, start_near, origin_near}

-- the coordinates are small enough to be rounded
pub record IsRoundable (p : Point) : Type 0 where
  pub x : unsigned_abs p.x ≤ 2 ^ 40
  pub y : unsigned_abs p.y ≤ 2 ^ 40

within_reach : (p : Point) → IsPointInReach p → IsRoundable p
within_reach p near = let x = near.x in let y = near.y in record { x = omega arith; y = omega arith }

part_most : (i : ℕ) (a : ℤ) → i ≤ 512 → unsigned_abs a ≤ 2 ^ 31 → unsigned_abs (pos i *ℤ a) ≤ 512 * 2 ^ 31
part_most i a few small = product_most (pos i) a 512 (2 ^ 31) (omega arith) small

sum_most : (p q r s : ℤ) → unsigned_abs p ≤ 512 * 2 ^ 31 → unsigned_abs q ≤ 512 * 2 ^ 31 → unsigned_abs r ≤ 512 * 2 ^ 31 → unsigned_abs s ≤ 512 * 2 ^ 31
    → unsigned_abs (((p +ℤ q) +ℤ r) +ℤ s) ≤ 2048 * 2 ^ 31
sum_most p q r s hp hq hr hs = omega (arith, ints)

mean_most : (i j k l : ℕ) (a b c d : ℤ) → i ≤ 512 → j ≤ 512 → k ≤ 512 → l ≤ 512 → unsigned_abs a ≤ 2 ^ 31 → unsigned_abs b ≤ 2 ^ 31 → unsigned_abs c ≤ 2 ^ 31 → unsigned_abs d ≤ 2 ^ 31
    → unsigned_abs (mean_of i j k l a b c d) ≤ 2 ^ 40
mean_most i j k l a b c d hi hj hk hl ha hb hc hd =
    let sum = ((pos i *ℤ a +ℤ pos j *ℤ b) +ℤ pos k *ℤ c) +ℤ pos l *ℤ d in
    let most : unsigned_abs sum ≤ 2048 * 2 ^ 31 = sum_most (pos i *ℤ a) (pos j *ℤ b) (pos k *ℤ c) (pos l *ℤ d) (part_most i a hi ha) (part_most j b hj hb) (part_most k c hk hc) (part_most l d hl hd) in
    bounded (unsigned_abs sum) (unsigned_abs (floor_of sum 512)) most (quotient_most sum 512 (omega arith))
  where
    bounded : (n q : ℕ) → n ≤ 2048 * 2 ^ 31 → q ≤ n / 512 + 1 → q ≤ 2 ^ 40
    bounded n q most at = omega arith

mean_within : (i j k l : ℕ) (p q r s : Point) → i ≤ 512 → j ≤ 512 → k ≤ 512 → l ≤ 512 → IsPointInReach p → IsPointInReach q → IsPointInReach r → IsPointInReach s → IsRoundable (mean_point i j k l p q r s)
mean_within i j k l p q r s hi hj hk hl hp hq hr hs = record {
  x = mean_most i j k l p.x q.x r.x s.x hi hj hk hl hp.x hq.x hr.x hs.x;
  y = mean_most i j k l p.y q.y r.y s.y hi hj hk hl hp.y hq.y hr.y hs.y;
}

curve_within : (p q r s : Point) → IsPointInReach p → IsPointInReach q → IsPointInReach r → IsPointInReach s → All IsRoundable (curve_points p q r s)
curve_within p q r s hp hq hr hs =
    let at : (i j k l : ℕ) → i ≤ 512 → j ≤ 512 → k ≤ 512 → l ≤ 512 → IsRoundable (mean_point i j k l p q r s) = λ i j k l hi hj hk hl. mean_within i j k l p q r s hi hj hk hl hp hq hr hs in
    let f = curve_point p q r s in
    All-cons IsRoundable (f 1) (f 2 ∷ f 3 ∷ f 4 ∷ f 5 ∷ f 6 ∷ f 7 ∷ f 8 ∷ []) (at 343 147 21 1 (omega arith) (omega arith) (omega arith) (omega arith))
    (All-cons IsRoundable (f 2) (f 3 ∷ f 4 ∷ f 5 ∷ f 6 ∷ f 7 ∷ f 8 ∷ []) (at 216 216 72 8 (omega arith) (omega arith) (omega arith) (omega arith))
    (All-cons IsRoundable (f 3) (f 4 ∷ f 5 ∷ f 6 ∷ f 7 ∷ f 8 ∷ []) (at 125 225 135 27 (omega arith) (omega arith) (omega arith) (omega arith))
    (All-cons IsRoundable (f 4) (f 5 ∷ f 6 ∷ f 7 ∷ f 8 ∷ []) (at 64 192 192 64 (omega arith) (omega arith) (omega arith) (omega arith))
    (All-cons IsRoundable (f 5) (f 6 ∷ f 7 ∷ f 8 ∷ []) (at 27 135 225 125 (omega arith) (omega arith) (omega arith) (omega arith))
    (All-cons IsRoundable (f 6) (f 7 ∷ f 8 ∷ []) (at 8 72 216 216 (omega arith) (omega arith) (omega arith) (omega arith))
    (All-cons IsRoundable (f 7) (f 8 ∷ []) (at 1 21 147 343 (omega arith) (omega arith) (omega arith) (omega arith))
    (All-cons IsRoundable (f 8) [] (at 0 0 0 512 (omega arith) (omega arith) (omega arith) (omega arith)) (All-nil IsRoundable))))))))

piece_within : (from : Point) (piece : Piece) → IsPointInReach from → IsPieceInReach piece → All IsRoundable (piece_points from piece)
piece_within from (Corner at end) from_near near =
    All-cons IsRoundable at (end ∷ []) (within_reach at near.0) (All-cons IsRoundable end [] (within_reach end near.1) (All-nil IsRoundable))
piece_within from (Curve first second end al) from_near near = curve_within from first second end from_near near.0 near.1 near.2

points_within : (from : Point) (pieces : List Piece) → IsPointInReach from → All IsPieceInReach pieces → All IsRoundable (points_from from pieces)
points_within from [] from_near near = All-nil IsRoundable
points_within from (piece ∷ pieces) from_near near =
    let here = All-head IsPieceInReach piece pieces near in
    All-append IsRoundable (piece_points from piece) (points_from (end_of piece) pieces) (piece_within from piece from_near here)
    (points_within (end_of piece) pieces (end_near piece here) (All-tail IsPieceInReach piece pieces near))

pub chords_within : (pieces : List Piece) → All IsPieceInReach pieces → All IsRoundable (chord_points pieces)
chords_within pieces near =
    let start = start_from origin pieces in
    let at_start = start_near origin pieces origin_near near in
    All-cons IsRoundable start (points_from start pieces) (within_reach start at_start) (points_within start pieces at_start near)

pub outline_chords_within : (outlines : List (List Piece)) (i : ℕ) → AreInReach outlines → All IsRoundable (chord_points (outline_at outlines i))
outline_chords_within outlines i near = chords_within (outline_at outlines i) (elim (cases_lt i (length outlines)) [
  | inl h ↦ near i [] h
  | inr h ↦ rw (get_or_past outlines i [] h) (All-nil IsPieceInReach)
])

-- thousandths of them are small
pub thousandths_small : (c : ℤ) → unsigned_abs c ≤ 2 ^ 40 → unsigned_abs (rounded c 1000) < 2 ^ 62
thousandths_small c small = let most = rounded_most c 1000 small (omega arith) in omega arith

-- the last of points that begin with this one
abbrev pub last_from : Point → List Point → Point
last_from p [] = p
last_from p (q ∷ points) = last_from q points

pub last_at : (p : Point) (points : List Point) (d : Point) → get_or (p ∷ points) (length points) d ≡ last_from p points
last_at p [] d = refl
last_at p (q ∷ points) d = last_at q points d

last_append : (p : Point) (points more : List Point) → last_from p (points ++ more) ≡ last_from (last_from p points) more
last_append p [] more = refl
last_append p (q ∷ points) more = last_append q points more

-- a curve's last chord ends where the curve does
whole_weight : (a b c d : ℤ) → mean_of 0 0 0 512 a b c d ≡ d
whole_weight a b c (pos n) =
    let sum : ((pos 0 *ℤ a +ℤ pos 0 *ℤ b) +ℤ pos 0 *ℤ c) +ℤ pos 512 *ℤ pos n ≡ pos (512 * n) = omega (arith, ints) in
    let back : 512 * n / 512 ≡ n = omega arith in
    ap (λ z. floor_of z 512) sum ∙ ap pos back
whole_weight a b c (negsuc n) =
    let sum : ((pos 0 *ℤ a +ℤ pos 0 *ℤ b) +ℤ pos 0 *ℤ c) +ℤ pos 512 *ℤ negsuc n ≡ negsuc (512 * n + 511) = omega (arith, ints) in
    let back : (512 * n + 511) / 512 ≡ n = omega arith in
    ap (λ z. floor_of z 512) sum ∙ ap negsuc back

last_of_curve : (from first second end : Point) → last_from from (curve_points from first second end) ≡ end
last_of_curve from first second end =
    let F : ℤ → Point = λ z. record { x = z; y = mean_of 0 0 0 512 from.y first.y second.y end.y } in
    let G : ℤ → Point = λ z. record { x = end.x; y = z } in
    ap F (whole_weight from.x first.x second.x end.x) ∙ ap G (whole_weight from.y first.y second.y end.y)

last_of_piece : (from : Point) (piece : Piece) → last_from from (piece_points from piece) ≡ end_of piece
last_of_piece from (Corner at end) = refl
last_of_piece from (Curve first second end al) = last_of_curve from first second end

last_of_pieces : (from : Point) (pieces : List Piece) → last_from from (points_from from pieces) ≡ start_from from pieces
last_of_pieces from [] = refl
last_of_pieces from (piece ∷ pieces) =
    last_append from (piece_points from piece) (points_from (end_of piece) pieces)
    ∙ ap (λ p. last_from p (points_from (end_of piece) pieces)) (last_of_piece from piece)
    ∙ last_of_pieces (end_of piece) pieces

-- the last chord point is the first one
pub chords_come_back : (pieces : List Piece) (d : Point) → get_or (chord_points pieces) (length (chord_points pieces) - 1) d ≡ start_from origin pieces
chords_come_back pieces d =
    let start = start_from origin pieces in
    let at : length (chord_points pieces) - 1 ≡ length (points_from start pieces) = omega arith in
    ap (λ k. get_or (chord_points pieces) k d) at ∙ last_at start (points_from start pieces) d ∙ last_of_pieces start pieces ∙ same_start origin pieces
