use Rattle.pt_core.proofs.AppendedTexts.{four}
use Rattle.dxf_geojson.proofs.features.Lines.put_feature.Goals as goal

pub returns : goal.returns
returns c =
    four _ _ _ _ _ _ _ _ _ c.in_ok-extend_from_slice.ensures.items
    (rw (c.deref.ensures.value, c.in_ok-gather_chords.ensures, c.pieces_at.ensures) at c.in_ok-put_ring.ensures)
    (rw c.as_slice.ensures at c.in_ok-put_holes.ensures) c.in_ok-extend_from_slice-2.ensures.items
