-- The outlines of a trace as rings of chord points, in thousandths of a pixel.
use Rattle.std.specs.Prelude.{◌≤◌, ◌-◌, List, ◌∷◌, true, take, length, map, reverse, All}
use Rattle.pt_core.specs.declared.piece.Piece.{Piece}
use Rattle.pt_core.specs.declared.point.Point.{Point}
use Rattle.pt_core.specs.declared.trace.Group.{Group}
use Rattle.pt_core.specs.declared.trace.Trace.{Trace}
use Rattle.pt_core.specs.Floor.{rounded}
use Rattle.pt_core.specs.Outlines.{outline_at}
use Rattle.dxf_geojson.specs.Chords.{chord_points}
use Rattle.document_readings.specs.Decimals.{Position}
use Rattle.document_readings.specs.DxfReading.{Polyline}
use Rattle.document_readings.specs.TraceShapes.{group_outlines}

-- a point in pixels, each coordinate rounded to thousandths by itself
abbrev pub position_of : Point → Position
position_of p = record { x = record { units = rounded p.x 1000; places = 3 }; y = record { units = rounded p.y 1000; places = 3 } }

-- the ring of an outline
abbrev pub ring_of : List Piece → List Position
ring_of pieces = map position_of (chord_points pieces)

-- the ring of a hole runs the other way round
abbrev pub hole_ring_of : List Piece → List Position
hole_ring_of pieces = map position_of (reverse (chord_points pieces))

-- the rings of a shape
abbrev pub group_rings : List (List Piece) → Group → List (List Position)
group_rings outlines group = ring_of (outline_at outlines group.outer) ∷ map (λ hole. hole_ring_of (outline_at outlines hole)) group.holes

-- the polygons of a trace: one for each shape
abbrev pub trace_polygons : Trace → List (List (List Position))
trace_polygons trace = map (group_rings trace.outlines) trace.groups

-- the polyline of an outline: closed, with a vertex for each chord point but the last one, which is the first
abbrev pub polyline_of : List Piece → Polyline
polyline_of pieces = record { closed = true; vertices = map position_of (take (length (chord_points pieces) - 1) (chord_points pieces)) }

-- the outline has two pieces or more, so that its chord points make a ring
abbrev pub HasTwoPieces : List Piece → Type 0
HasTwoPieces pieces = 2 ≤ length pieces

-- and so has each outline of a shape
abbrev pub HaveTwoPieces : Trace → Type 0
HaveTwoPieces trace = All (λ group. All HasTwoPieces (group_outlines trace.outlines group)) trace.groups
