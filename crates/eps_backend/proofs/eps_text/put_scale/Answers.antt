use Rattle.pt_core.proofs.AppendedTexts.{three}
use Rattle.eps_backend.proofs.eps_text.put_scale.Goals as goal

pub returns : goal.returns
returns c = three _ _ _ _ _ _ _ c.in_ok-extend_from_slice.ensures.items c.in_ok-put_number.ensures.appended c.in_ok-extend_from_slice-2.ensures.items
