use Rattle.outline_check.proofs.Written.{text_found}
use Rattle.outline_check.proofs.laws.closed_walks_have_texts_of_certificates.Goals as goal

pub returns : goal.returns
returns c = text_found
