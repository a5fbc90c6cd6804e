use Rattle.document_readings.proofs.PsDocuments.{document_painted, page_painted}
use Rattle.document_readings.proofs.laws.programs_fill_their_traces.Goals as goal

pub returns-clause-document : goal.returns-clause-document
returns-clause-document c = document_painted

pub returns-clause-page : goal.returns-clause-page
returns-clause-page c = page_painted
