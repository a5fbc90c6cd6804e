use Rattle.pt_core.proofs.AppendedTexts.{one_more_read}
use Rattle.dxf_geojson.specs.DxfText.{vertex_text}
use Rattle.dxf_geojson.proofs.drawing.put_vertices.Goals as goal

pub loop-vertex-preserved : goal.loop-vertex-preserved
loop-vertex-preserved c =
    one_more_read vertex_text c.in-Some.vertices.now c.loop-vertex.vertex-index c.loop-vertex.out.items c.put_vertex.new.out.items _ _
    c.loop-vertex-test.true c.in_ok-put_vertex.ensures c.loop-vertex.invariant
