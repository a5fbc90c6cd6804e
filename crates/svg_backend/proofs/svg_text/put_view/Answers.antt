use Rattle.pt_core.proofs.AppendedTexts.{two, four}
use Rattle.svg_backend.proofs.svg_text.put_view.Goals as goal

pub returns : goal.returns
returns c =
    two _ _ _ _ _
    (four _ _ _ _ _ _ _ _ _ c.in_ok-extend_from_slice.ensures.items (rw c.side_in_units.ensures at c.in_ok-put_number.ensures.appended)
    c.in_ok-extend_from_slice-2.ensures.items (rw c.side_in_units-2.ensures at c.in_ok-put_number-2.ensures.appended))
    c.in_ok-extend_from_slice-3.ensures.items
