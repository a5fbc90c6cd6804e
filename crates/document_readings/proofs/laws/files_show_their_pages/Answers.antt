use Rattle.document_readings.proofs.DscDocuments.{files_pages}
use Rattle.document_readings.proofs.PsFiles.{file_painted}
use Rattle.document_readings.proofs.laws.files_show_their_pages.Goals as goal

pub returns-clause-pages : goal.returns-clause-pages
returns-clause-pages c = files_pages

pub returns-clause-painted : goal.returns-clause-painted
returns-clause-painted c = file_painted
