use Rattle.page_batches.proofs.Bound.{whole_added, whole_cut_off}
use Rattle.page_batches.proofs.laws.whole_documents_are_parts.Goals as goal

pub returns : goal.returns
returns c = record { added = whole_added; cut_off = whole_cut_off }
