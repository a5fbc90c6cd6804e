use Rattle.page_readings.proofs.Pages.{eps_shown}
use Rattle.page_readings.proofs.laws.eps_documents_show_their_pages.Goals as goal

pub returns : goal.returns
returns c = eps_shown
