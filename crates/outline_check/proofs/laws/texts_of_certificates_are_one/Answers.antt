use Rattle.outline_check.proofs.Written.{one_text}
use Rattle.outline_check.proofs.laws.texts_of_certificates_are_one.Goals as goal

pub returns : goal.returns
returns c = one_text
