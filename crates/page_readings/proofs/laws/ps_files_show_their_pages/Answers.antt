use Rattle.page_readings.proofs.Files.{file_shown}
use Rattle.page_readings.proofs.laws.ps_files_show_their_pages.Goals as goal

pub returns : goal.returns
returns c = file_shown
