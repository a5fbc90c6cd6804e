-- The outlines of a trace as a document in units shows them: each place is rounded by itself.
use Rattle.std.specs.Prelude.{◌≡◌, ℕ, ◌≤◌, ◌^◌, unsigned_abs, List, [], ◌∷◌, flat_map, All}
use Rattle.pt_core.specs.declared.piece.Piece.{Piece}
use Rattle.pt_core.specs.declared.piece.Piece.TheVariants.{Corner, Curve}
use Rattle.pt_core.specs.declared.point.Point.{Point}
use Rattle.pt_core.specs.ClosedWalk.{origin}
use Rattle.pt_core.specs.Floor.{rounded}
use Rattle.pt_core.specs.Outlines.{start_from}
use Rattle.document_readings.specs.Drawn.{Place, Segment, line_to, curve_to, Subpath}

-- a point, rounded to units of which a pixel has so many
abbrev pub rounded_place : ℕ → Point → Place
rounded_place unit p = record { x = rounded p.x unit; y = rounded p.y unit }

-- two lines, by way of the corner; or a curve
abbrev pub piece_segments : ℕ → Piece → List Segment
piece_segments unit (Corner at end) = line_to (rounded_place unit at) ∷ line_to (rounded_place unit end) ∷ []
piece_segments unit (Curve first second end al) = curve_to (rounded_place unit first) (rounded_place unit second) (rounded_place unit end) ∷ []

-- an outline starts where its last piece ends
abbrev pub outline_subpath : ℕ → List Piece → Subpath
outline_subpath unit pieces = record { start = rounded_place unit (start_from origin pieces); segments = flat_map (piece_segments unit) pieces }

-- the point is no farther away than coordinates of 32 bits allow
pub record IsPointInReach (p : Point) : Type 0 where
  pub x : unsigned_abs p.x ≤ 2 ^ 31
  pub y : unsigned_abs p.y ≤ 2 ^ 31

-- so are all points of the piece
abbrev pub IsPieceInReach : Piece → Type 0
IsPieceInReach (Corner at end) = IsPointInReach at × IsPointInReach end
IsPieceInReach (Curve first second end al) = IsPointInReach first × IsPointInReach second × IsPointInReach end

-- and of the outlines
abbrev pub AreInReach : List (List Piece) → Type 0
AreInReach outlines = All (All IsPieceInReach) outlines

-- where segments end that begin at a place
abbrev pub end_from : Place → List Segment → Place
end_from start [] = start
end_from start (line_to end ∷ segments) = end_from end segments
end_from start (curve_to first second end ∷ segments) = end_from end segments

-- the segments end where the subpath starts, so closing it adds no line
abbrev pub ComesBack : Subpath → Type 0
ComesBack subpath = end_from subpath.start subpath.segments ≡ subpath.start
