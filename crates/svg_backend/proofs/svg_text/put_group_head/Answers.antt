use Rattle.pt_core.proofs.AppendedTexts.{three}
use Rattle.svg_backend.proofs.svg_text.put_group_head.Goals as goal

pub returns : goal.returns
returns c =
    three _ _ _ _ _ _ _ c.in_ok-extend_from_slice.ensures.items (rw c.side_in_units.ensures at c.in_ok-put_number.ensures.appended)
    c.in_ok-extend_from_slice-2.ensures.items
