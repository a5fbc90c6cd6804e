use Rattle.pt_core.proofs.AppendedTexts.{three}
use Rattle.dxf_geojson.proofs.drawing.put_polyline.Goals as goal

pub returns : goal.returns
returns c =
    three _ _ _ _ _ _ _ c.in_ok-extend_from_slice.ensures.items
    (rw (c.deref.ensures.value, c.in_ok-gather_chords.ensures) at c.in_ok-put_vertices.ensures) c.in_ok-extend_from_slice-2.ensures.items
