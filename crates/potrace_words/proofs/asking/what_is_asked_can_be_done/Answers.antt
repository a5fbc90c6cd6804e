use Rattle.potrace_words.proofs.Possible.{possible}
use Rattle.potrace_words.proofs.asking.what_is_asked_can_be_done.Goals as goal

-- each number is in its range
pub returns : goal.returns
returns c = possible
