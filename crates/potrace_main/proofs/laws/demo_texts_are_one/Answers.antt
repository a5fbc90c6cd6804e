use Rattle.potrace_main.proofs.OneText.{one_demo}
use Rattle.potrace_main.proofs.laws.demo_texts_are_one.Goals as goal

pub returns : goal.returns
returns c = one_demo
