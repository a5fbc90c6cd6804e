use Rattle.page_batches.proofs.Bound.{whole_file}
use Rattle.page_batches.proofs.laws.all_pages_are_one_document.Goals as goal

pub returns : goal.returns
returns c = whole_file
