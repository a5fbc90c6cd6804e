use Rattle.mkbitmap_words.proofs.FilterAsks.{one_filter_ask}
use Rattle.mkbitmap_words.proofs.laws.words_ask_for_one_filter.Goals as goal

-- a command line determines what it asks for
pub returns : goal.returns
returns c = one_filter_ask
