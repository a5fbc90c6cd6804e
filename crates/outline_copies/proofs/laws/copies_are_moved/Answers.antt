use Rattle.outline_copies.proofs.Copies.{copy_moved, moved_copy}
use Rattle.outline_copies.proofs.laws.copies_are_moved.Goals as goal

pub returns : goal.returns
returns c = record { moved = copy_moved; copies = moved_copy }
