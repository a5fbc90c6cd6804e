use Rattle.std.proofs.lemmas.Result.{IfOk-weaker}
use Rattle.potrace_words.specs.Asked.{Asks, CanBeDone}
use Rattle.potrace_words.proofs.Possible.{possible_of_parsed}
use Rattle.potrace_words.proofs.words.settings_of.Goals as goal

-- what is asked for can be done
pub returns-in-Ok-clause-can_be_done : goal.returns-in-Ok-clause-can_be_done
returns-in-Ok-clause-can_be_done c = IfOk-weaker c.ask_of.result (Asks c.in-Ok.parsed) CanBeDone (possible_of_parsed c.in-Ok.parsed) c.ask_of.ensures.ok
