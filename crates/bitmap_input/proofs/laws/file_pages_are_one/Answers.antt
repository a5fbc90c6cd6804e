use Rattle.bitmap_input.proofs.Files.{file_pages_some, file_pages_same}
use Rattle.bitmap_input.proofs.laws.file_pages_are_one.Goals as goal

pub returns : goal.returns
returns c = record { some = file_pages_some; same = λ later bytes raws others ending other first second. file_pages_same first second }
