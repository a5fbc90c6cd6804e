use Rattle.std.proofs.Common.{◌≡◌, ◌++◌, drop, flat_map}
use Rattle.dxf_geojson.specs.DxfText.{polyline_text}
use Rattle.dxf_geojson.proofs.drawing.put_polylines.Given as goal

-- the text that is written, followed by the text of the outlines that are left, is the whole text
abbrev pub invariant-loop-outline : goal.invariant-loop-outline
invariant-loop-outline l =
    l.out.items ++ flat_map polyline_text (drop l.outline-index l.outlines) ≡ l.fn.out.items ++ flat_map polyline_text l.outlines
