use Rattle.page_trace.proofs.Copied.{outline_moved_round, same_polygon}
use Rattle.page_trace.proofs.laws.copies_have_moved_outlines.Goals as goal

pub returns : goal.returns
returns c = record { polygon = same_polygon; outline = outline_moved_round }
