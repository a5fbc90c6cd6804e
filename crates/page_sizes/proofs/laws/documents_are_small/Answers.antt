use Rattle.page_sizes.proofs.Documents.{document_most}
use Rattle.page_sizes.proofs.laws.documents_are_small.Goals as goal

pub returns : goal.returns
returns c = λ page settings text is_page few document. document_most settings.backend page settings text is_page few document
