use Rattle.page_batches.proofs.Bound.{open_pages}
use Rattle.page_batches.proofs.laws.first_pages_stay_open.Goals as goal

pub returns : goal.returns
returns c = open_pages
