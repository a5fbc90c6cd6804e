use Rattle.page_sizes.proofs.Files.{file_most}
use Rattle.page_sizes.proofs.laws.files_are_small.Goals as goal

pub returns : goal.returns
returns c = file_most
