use Rattle.potrace_main.proofs.Found.{demo_found}
use Rattle.potrace_main.proofs.laws.demos_have_texts.Goals as goal

pub returns : goal.returns
returns c = demo_found
