-- The text of a page as GeoJSON (RFC 7946, sections 3.1.6 and 3.3). A shape is a polygon. Its outer ring has the
-- direction of its outline, and the rings of its holes have the reverse direction of theirs. The layout of the lines is
-- our own.
use Rattle.std.specs.Prelude.{ℕ, List, [], ◌∷◌, ◌++◌, codes, flat_map, reverse}
use Rattle.std.specs.List.{join_by}
use Rattle.pt_core.specs.declared.piece.Piece.{Piece}
use Rattle.pt_core.specs.declared.point.Point.{Point}
use Rattle.pt_core.specs.declared.trace.Group.{Group}
use Rattle.pt_core.specs.declared.trace.Trace.{Trace}
use Rattle.pt_core.specs.Outlines.{outline_at}
use Rattle.dxf_geojson.specs.Chords.{chord_points}
use Rattle.dxf_geojson.specs.DxfText.{pixels_text}

-- a position: a column and a row
abbrev pub position_text : Point → List ℕ
position_text p = codes "[" ++ pixels_text p.x ++ codes "," ++ pixels_text p.y ++ codes "]"

-- a ring: positions with a comma between two; the last one is the first one again
abbrev pub ring_text : List Point → List ℕ
ring_text points = codes "[" ++ join_by position_text (codes ",") points ++ codes "]"

-- the ring of a hole, after a comma, in the reverse direction of its outline
abbrev pub hole_text : List Piece → List ℕ
hole_text pieces = codes "," ++ ring_text (reverse (chord_points pieces))

-- a shape with its holes
abbrev pub feature_text : List (List Piece) → Group → List ℕ
feature_text outlines group =
    codes "{\"type\":\"Feature\",\"properties\":{},\"geometry\":{\"type\":\"Polygon\",\"coordinates\":["
    ++ ring_text (chord_points (outline_at outlines group.outer)) ++ flat_map (λ hole. hole_text (outline_at outlines hole)) group.holes
    ++ codes "]}}"

-- a line for each shape; each line except the last one ends with a comma
abbrev pub features_text : List (List Piece) → List Group → List ℕ
features_text outlines [] = []
features_text outlines (first ∷ more) =
    join_by (feature_text outlines) (codes ",\n") (first ∷ more) ++ codes "\n"

-- the whole document
abbrev pub geojson_text : Trace → List ℕ
geojson_text trace =
    codes "{\"type\":\"FeatureCollection\",\"features\":[\n" ++ features_text trace.outlines trace.groups ++ codes "]}\n"
