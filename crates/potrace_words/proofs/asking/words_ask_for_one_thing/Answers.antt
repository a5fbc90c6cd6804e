use Rattle.potrace_words.proofs.OneAsk.{one_ask}
use Rattle.potrace_words.proofs.asking.words_ask_for_one_thing.Goals as goal

-- a command line determines what it asks for
pub returns : goal.returns
returns c = one_ask
