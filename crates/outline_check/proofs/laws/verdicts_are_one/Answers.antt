use Rattle.outline_check.proofs.OneVerdict.{one_verdict}
use Rattle.outline_check.proofs.laws.verdicts_are_one.Goals as goal

pub returns : goal.returns
returns c = one_verdict
