use Rattle.pt_core.proofs.AppendedTexts.{four}
use Rattle.svg_backend.proofs.svg_text.put_size.Goals as goal

pub returns : goal.returns
returns c =
    four _ _ _ _ _ _ _ _ _ c.in_ok-extend_from_slice.ensures.items c.in_ok-put_number.ensures.appended c.in_ok-extend_from_slice-2.ensures.items
    c.in_ok-put_number-2.ensures.appended
