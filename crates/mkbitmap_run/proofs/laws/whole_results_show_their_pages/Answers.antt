use Rattle.mkbitmap_words.proofs.FilterAsks.{asked_can}
use Rattle.mkbitmap_run.proofs.Whole.{page_is_written}
use Rattle.mkbitmap_run.proofs.laws.whole_results_show_their_pages.Goals as goal

pub returns : goal.returns
returns c = λ words setup bytes old new asked whole. page_is_written setup bytes old new (asked_can words setup asked).some_times whole
