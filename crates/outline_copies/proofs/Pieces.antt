-- The smooth outline of moved vertices is the moved smooth outline.
use Rattle.std.proofs.Common.{◌≡◌, ℕ, ◌+◌, ◌-◌, ◌<◌, ℤ, pos, ◌+ℤ◌, ◌-ℤ◌, ◌*ℤ◌, Bool, true, false, if◌then◌else◌, List, length, map, ap, ◌∙◌, arith}
use Rattle.std.proofs.lemmas.Int.{ints}
use Rattle.std.proofs.lemmas.List.{length-map}
use Rattle.std.specs.List.{range_with_len}
use Rattle.std.specs.Prelude.{unsigned_abs}
use Rattle.pt_core.specs.ClosedWalk.{origin, point_at}
use Rattle.pt_core.specs.Floor.{floor_of}
use Rattle.pt_core.specs.declared.piece.Piece.TheVariants.{Corner, Curve}
use Rattle.pt_core.specs.declared.point.Point.{Point}
use Rattle.corner_smooth.specs.Corner.{al_of, control_of, corner_piece, curve_of, is_corner, middle_of, part_of, piece_of, pieces_of, sharpness_by, sharpness_of}
use Rattle.outline_copies.specs.Moved.{moved_by, piece_moved_by}
use Rattle.outline_copies.proofs.Floors.{half_moved}
use Rattle.outline_copies.proofs.Lists.{mapped_range, moved_at}
use Rattle.outline_copies.proofs.Vertices.{same_way}

-- ---- one piece

both_moved : (a b move : ℤ) → (a +ℤ move) +ℤ (b +ℤ move) ≡ (a +ℤ b) +ℤ pos 2 *ℤ move
both_moved a b move = omega (arith, ints)

halfway : (a b move : ℤ) → floor_of ((a +ℤ move) +ℤ (b +ℤ move)) 2 ≡ floor_of (a +ℤ b) 2 +ℤ move
halfway a b move = ap (λ z. floor_of z 2) (both_moved a b move) ∙ half_moved (a +ℤ b) move

pub middle_moved : (right up : ℤ) (p q : Point) → middle_of (moved_by right up p) (moved_by right up q) ≡ moved_by right up (middle_of p q)
middle_moved right up p q =
    let x = halfway p.x q.x right in
    let y = halfway p.y q.y up in
    λ i. record { x = x i; y = y i }

pub onward : (a b move : ℤ) → (a +ℤ move) +ℤ b ≡ (a +ℤ b) +ℤ move
onward a b move = omega (arith, ints)

part_on : (al : ℕ) (from to move : ℤ) → part_of al (from +ℤ move) (to +ℤ move) ≡ part_of al from to +ℤ move
part_on al from to move =
    ap (λ w. (from +ℤ move) +ℤ floor_of (pos (65536 + al) *ℤ w) 131072) (same_way to from move)
    ∙ onward from (floor_of (pos (65536 + al) *ℤ (to -ℤ from)) 131072) move

control_moved : (right up : ℤ) (al : ℕ) (p q : Point) → control_of al (moved_by right up p) (moved_by right up q) ≡ moved_by right up (control_of al p q)
control_moved right up al p q =
    let x = part_on al p.x q.x right in
    let y = part_on al p.y q.y up in
    λ i. record { x = x i; y = y i }

same_sharpness : (right up : ℤ) (before at after : Point)
    → sharpness_of (moved_by right up before) (moved_by right up at) (moved_by right up after) ≡ sharpness_of before at after
same_sharpness right up before at after =
    let ax = same_way at.x before.x right in
    let ay = same_way at.y before.y up in
    let bx = same_way after.x before.x right in
    let by = same_way after.y before.y up in
    λ i. sharpness_by (unsigned_abs (ax i *ℤ by i -ℤ ay i *ℤ bx i)) (unsigned_abs (bx i) + unsigned_abs (by i))

choice_moved : (right up : ℤ) (before at after : Point) (al : ℕ) (is_sharp : Bool)
    → (if is_sharp then Corner (moved_by right up at) (middle_of (moved_by right up at) (moved_by right up after))
    else curve_of al (moved_by right up before) (moved_by right up at) (moved_by right up after))
    ≡ piece_moved_by right up (if is_sharp then Corner at (middle_of at after) else curve_of al before at after)
choice_moved right up before at after al true = ap (Corner (moved_by right up at)) (middle_moved right up at after)
choice_moved right up before at after al false =
    let first = control_moved right up al before at in
    let second = control_moved right up al after at in
    let end = middle_moved right up at after in
    λ i. Curve (first i) (second i) (end i) al

piece_moved : (right up : ℤ) (alphamax : ℕ) (before at after : Point)
    → piece_of alphamax (moved_by right up before) (moved_by right up at) (moved_by right up after) ≡ piece_moved_by right up (piece_of alphamax before at after)
unfolding piece_of
piece_moved right up alphamax before at after =
    ap (λ s. if is_corner alphamax s then Corner (moved_by right up at) (middle_of (moved_by right up at) (moved_by right up after))
    else curve_of (al_of s) (moved_by right up before) (moved_by right up at) (moved_by right up after)) (same_sharpness right up before at after)
    ∙ choice_moved right up before at after (al_of (sharpness_of before at after)) (is_corner alphamax (sharpness_of before at after))

-- ---- all pieces

module _ (right up : ℤ) (alphamax : ℕ) (vertices : List Point) where
  one_moved : (some : 0 < length vertices) (j : ℕ)
      → corner_piece alphamax (map (moved_by right up) vertices) j ≡ piece_moved_by right up (corner_piece alphamax vertices j)
  one_moved some j =
      let count = length-map vertices (moved_by right up) in
      let before = ap (λ n. point_at (map (moved_by right up) vertices) (j + (n - 1))) count ∙ moved_at right up vertices (j + (length vertices - 1)) some in
      let at = moved_at right up vertices j some in
      let after = moved_at right up vertices (j + 1) some in
      (λ i. piece_of alphamax (before i) (at i) (after i))
      ∙ piece_moved right up alphamax (point_at vertices (j + (length vertices - 1))) (point_at vertices j) (point_at vertices (j + 1))

pub pieces_moved : (right up : ℤ) (alphamax : ℕ) (vertices : List Point)
    → pieces_of alphamax (map (moved_by right up) vertices) ≡ map (piece_moved_by right up) (pieces_of alphamax vertices)
pieces_moved right up alphamax vertices =
    ap (λ n. map (corner_piece alphamax (map (moved_by right up) vertices)) (range_with_len 0 n)) (length-map vertices (moved_by right up))
    ∙ mapped_range (piece_moved_by right up) (corner_piece alphamax vertices) (corner_piece alphamax (map (moved_by right up) vertices))
    (length vertices) (Corner origin origin) (Corner origin origin)
    (λ k h. one_moved right up alphamax vertices (omega arith) k)
