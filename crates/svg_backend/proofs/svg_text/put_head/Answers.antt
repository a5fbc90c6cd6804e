use Rattle.pt_core.proofs.AppendedTexts.{three}
use Rattle.svg_backend.proofs.svg_text.put_head.Goals as goal

pub returns : goal.returns
returns c = three _ _ _ _ _ _ _ c.in_ok-extend_from_slice.ensures.items c.in_ok-put_sides.ensures c.in_ok-put_group_head.ensures
