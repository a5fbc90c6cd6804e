use Rattle.std.proofs.Common.{◌≡◌, ◌++◌, drop, flat_map}
use Rattle.dxf_geojson.specs.DxfText.{vertex_text}
use Rattle.dxf_geojson.proofs.drawing.put_vertices.Given as goal

-- the text that is written, followed by the text of the vertices that are left, is the whole text
abbrev pub invariant-loop-vertex : goal.invariant-loop-vertex
invariant-loop-vertex l =
    l.out.items ++ flat_map vertex_text (drop l.vertex-index l.vertices) ≡ l.fn.out.items ++ flat_map vertex_text l.vertices
