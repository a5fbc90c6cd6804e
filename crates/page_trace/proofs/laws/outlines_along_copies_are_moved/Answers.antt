use Rattle.page_trace.proofs.Copied.{outline_moved_along}
use Rattle.page_trace.proofs.laws.outlines_along_copies_are_moved.Goals as goal

pub returns : goal.returns
returns c = outline_moved_along
