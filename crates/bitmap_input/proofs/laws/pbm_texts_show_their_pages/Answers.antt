use Rattle.bitmap_input.proofs.Shown.{front_of, raw_of, shown_is}
use Rattle.bitmap_input.proofs.laws.pbm_texts_show_their_pages.Goals as goal

pub returns : goal.returns
returns c = λ page is_page. (raw_of page, front_of page is_page, λ level. shown_is level page is_page)
