use Rattle.potrace_main.proofs.Levels.{demo_so}
use Rattle.potrace_main.proofs.laws.levels_change_no_demo.Goals as goal

pub returns : goal.returns
returns c = demo_so
