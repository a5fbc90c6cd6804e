-- The text of a page as an AutoCAD Drawing Interchange File (DXF Reference, section ENTITIES). A group is a line with
-- its number and a line with its value.
use Rattle.std.specs.Prelude.{ℕ, ℤ, ◌-◌, List, ◌++◌, codes, flat_map, length, take}
use Rattle.pt_core.specs.declared.piece.Piece.{Piece}
use Rattle.pt_core.specs.declared.point.Point.{Point}
use Rattle.pt_core.specs.declared.trace.Trace.{Trace}
use Rattle.pt_core.specs.FixedText.{fixed_text}
use Rattle.pt_core.specs.Floor.{rounded}
use Rattle.dxf_geojson.specs.Chords.{chord_points}

-- a coordinate in pixels, rounded to thousandths
abbrev pub pixels_text : ℤ → List ℕ
pixels_text c = fixed_text (rounded c 1000)

-- a vertex on layer 0, with its column and its row
abbrev pub vertex_text : Point → List ℕ
vertex_text p = codes "0\nVERTEX\n8\n0\n10\n" ++ pixels_text p.x ++ codes "\n20\n" ++ pixels_text p.y ++ codes "\n"

-- all points except the last one
abbrev pub all_but_last : List Point → List Point
all_but_last points = take (length points - 1) points

-- a closed polyline on layer 0; its last point is its first one, and isn't repeated
abbrev pub polyline_text : List Piece → List ℕ
polyline_text pieces =
    codes "0\nPOLYLINE\n8\n0\n66\n1\n70\n1\n" ++ flat_map vertex_text (all_but_last (chord_points pieces)) ++ codes "0\nSEQEND\n"

-- the whole drawing: a polyline for each outline, in the order of the paths
abbrev pub dxf_text : Trace → List ℕ
dxf_text trace = codes "0\nSECTION\n2\nENTITIES\n" ++ flat_map polyline_text trace.outlines ++ codes "0\nENDSEC\n0\nEOF\n"
