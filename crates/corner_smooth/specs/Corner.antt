-- Corners and curves at the vertices of an outline (Selinger, "Potrace: a polygon-based tracing
-- algorithm", 2003, section 2.3.3). All is in whole numbers, and how parts of a unit are rounded is our
-- own. Places are in units of 1/1024 pixel.
use Rattle.std.specs.Prelude.{ℕ, ◌+◌, ◌-◌, ◌*◌, ◌/◌, ◌≤◌, min, max, ℤ, pos, neg_ℤ, ◌+ℤ◌, ◌-ℤ◌, ◌*ℤ◌, ◌≤ℤ◌, unsigned_abs, Bool, nat_eq, nat_le, if◌then◌else◌, List, length, map}
use Rattle.std.specs.List.{range_with_len}
use Rattle.pt_core.specs.declared.piece.Piece.{Piece}
use Rattle.pt_core.specs.declared.piece.Piece.TheVariants.{Corner, Curve}
use Rattle.pt_core.specs.declared.point.Point.{Point}
use Rattle.pt_core.specs.ClosedWalk.{point_at}
use Rattle.pt_core.specs.Floor.{floor_of}
use Rattle.corner_smooth.specs.declared.corner.Fraction.{Fraction}

-- the coordinate is on a page with sides of 32767 pixels, or at most half a pixel off it
pub record IsInReach (c : ℤ) : Type 0 where
  pub low : neg_ℤ (pos 512) ≤ℤ c
  pub high : c ≤ℤ pos 33553920

-- both coordinates are
pub record IsNearWidePage (p : Point) : Type 0 where
  pub x : IsInReach p.x
  pub y : IsInReach p.y

-- the cross product of the ways from the first place to the two others
abbrev pub signed_area_of : Point → Point → Point → ℤ
signed_area_of before at after =
    (at.x -ℤ before.x) *ℤ (after.y -ℤ before.y) -ℤ (at.y -ℤ before.y) *ℤ (after.x -ℤ before.x)

-- twice the area of the triangle of a vertex and its neighbours
abbrev pub area_of : Point → Point → Point → ℕ
area_of before at after = unsigned_abs (signed_area_of before at after)

-- how far two places are from each other, along the columns and along the rows
abbrev pub grid_distance_of : Point → Point → ℕ
grid_distance_of p q = unsigned_abs (q.x -ℤ p.x) + unsigned_abs (q.y -ℤ p.y)

-- Selinger's alpha, for a triangle of this doubled area whose neighbours of the vertex are at this
-- distance. Parallel to the line through the middles of the two sides at the vertex, another one touches
-- the square of one pixel around the vertex: alpha is 4/3 of the part of the way to the vertex that lies
-- before that one, which is 1 - 1024 * distance / area. Where it lies behind the middles alpha is 0, and
-- where the neighbours are one place it is 4/3.
abbrev pub sharpness_by : ℕ → ℕ → Fraction
sharpness_by area distance =
    if nat_eq distance 0 then record { numerator = 4; denominator = 3 }
    else (if nat_le area (1024 * distance) then record { numerator = 0; denominator = 1 }
    else record { numerator = 4 * (area - 1024 * distance); denominator = 3 * area })

-- that of a vertex and its neighbours
abbrev pub sharpness_of : Point → Point → Point → Fraction
sharpness_of before at after = sharpness_by (area_of before at after) (grid_distance_of before after)

-- the sharpness is at least so many millionths
abbrev pub is_corner : ℕ → Fraction → Bool
is_corner alphamax sharpness = nat_le (alphamax * sharpness.denominator) (1000000 * sharpness.numerator)

-- the sharpness in units of 1/65536, rounded down, but no less than 0.55 and no more than 1
abbrev pub al_of : Fraction → ℕ
al_of sharpness = max 36045 (min 65536 (65536 * sharpness.numerator / sharpness.denominator))

-- halfway between two places, rounded down
abbrev pub middle_of : Point → Point → Point
middle_of p q = record { x = floor_of (p.x +ℤ q.x) 2; y = floor_of (p.y +ℤ q.y) 2 }

-- the coordinate that lies (65536 + al) / 131072 of the way from one to another, rounded down
abbrev pub part_of : ℕ → ℤ → ℤ → ℤ
part_of al from to = from +ℤ floor_of (pos (65536 + al) *ℤ (to -ℤ from)) 131072

-- the curve's control between a neighbour and the vertex: as far from the middle of that side as `al`
-- says, on the way to the vertex
abbrev pub control_of : ℕ → Point → Point → Point
control_of al neighbour at = record { x = part_of al neighbour.x at.x; y = part_of al neighbour.y at.y }

-- the curve at a vertex, of this roundness
abbrev pub curve_of : ℕ → Point → Point → Point → Piece
curve_of al before at after = Curve (control_of al before at) (control_of al after at) (middle_of at after) al

-- the piece at a vertex between two others, where vertices as sharp as `alphamax` are corners
unfoldable pub piece_of : ℕ → Point → Point → Point → Piece
piece_of alphamax before at after =
    if is_corner alphamax (sharpness_of before at after) then Corner at (middle_of at after)
    else curve_of (al_of (sharpness_of before at after)) before at after

-- the piece at vertex number j: before the first vertex comes the last, and after the last the first
abbrev pub corner_piece : ℕ → List Point → ℕ → Piece
corner_piece alphamax vertices j =
    piece_of alphamax (point_at vertices (j + (length vertices - 1))) (point_at vertices j) (point_at vertices (j + 1))

-- one piece for each vertex, in order
abbrev pub pieces_of : ℕ → List Point → List Piece
pieces_of alphamax vertices = map (corner_piece alphamax vertices) (range_with_len 0 (length vertices))

-- the piece's places are near the page
abbrev pub StaysNear : Piece → Type 0
StaysNear (Corner at end) = IsNearWidePage at × IsNearWidePage end
StaysNear (Curve first second end al) = IsNearWidePage first × IsNearWidePage second × IsNearWidePage end

-- a curve's `al` is from 0.55 to 1, in units of 1/65536
abbrev pub HasRoundness : Piece → Type 0
HasRoundness (Corner at end) = Unit {0}
HasRoundness (Curve first second end al) = (36045 ≤ al) × (al ≤ 65536)
