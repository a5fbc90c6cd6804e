use Rattle.mkbitmap_run.proofs.Whole.{text_is}
use Rattle.mkbitmap_run.proofs.laws.whole_results_are_pbm_texts.Goals as goal

pub returns : goal.returns
returns c = text_is
