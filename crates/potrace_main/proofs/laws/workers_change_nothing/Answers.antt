use Rattle.potrace_main.proofs.Sameness.{workers_alike}
use Rattle.potrace_main.proofs.laws.workers_change_nothing.Goals as goal

pub returns : goal.returns
returns c = λ ask workers contents s t source source_now other other_now old now before after this that calm quiet.
    workers_alike contents s t source source_now other other_now old now before after calm quiet ask workers this that
