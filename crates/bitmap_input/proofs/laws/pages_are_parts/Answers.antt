use Rattle.bitmap_input.proofs.FrontKeeps.{front_takes_some}
use Rattle.bitmap_input.proofs.PageBytes.{page_text}
use Rattle.bitmap_input.proofs.laws.pages_are_parts.Goals as goal

pub returns : goal.returns
returns c = record {
  parts = λ later bytes raw used is. page_text later bytes raw used is;
  within = λ later bytes raw used is. (front_takes_some later bytes raw used is).1;
}
