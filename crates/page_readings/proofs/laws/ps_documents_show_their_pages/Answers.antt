use Rattle.page_readings.proofs.Pages.{ps_shown}
use Rattle.page_readings.proofs.laws.ps_documents_show_their_pages.Goals as goal

pub returns : goal.returns
returns c = ps_shown
