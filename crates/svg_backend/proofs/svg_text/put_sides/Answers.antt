use Rattle.pt_core.proofs.AppendedTexts.{two}
use Rattle.svg_backend.proofs.svg_text.put_sides.Goals as goal

pub returns : goal.returns
returns c = two _ _ _ _ _ c.in_ok-put_size.ensures c.in_ok-put_view.ensures
