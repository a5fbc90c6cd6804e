use Rattle.std.proofs.Common.{sym}
use Rattle.pt_core.proofs.AppendedTexts.{one_more}
use Rattle.dxf_geojson.specs.DxfText.{polyline_text}
use Rattle.dxf_geojson.proofs.drawing.put_polylines.Goals as goal

pub loop-outline-preserved : goal.loop-outline-preserved
loop-outline-preserved c =
    one_more polyline_text c.args.outlines.now c.loop-outline.outline-index c.loop-outline.out.items c.put_polyline.new.out.items _
    c.outline-item.result c.loop-outline-test.true (sym c.outline-item.is) (rw c.as_slice.ensures at c.in_ok-put_polyline.ensures)
    c.loop-outline.invariant
