use Rattle.std.proofs.Common.{◌≡◌, map, take}
use Rattle.outline_copies.specs.Moved.{piece_moved_by}
use Rattle.page_trace.proofs.known_outlines.moved_pieces.Given as goal

-- the first pieces were moved
abbrev pub invariant-loop-piece : goal.invariant-loop-piece
invariant-loop-piece l = l.list.items ≡ map (piece_moved_by l.by.right l.by.up) (take l.piece-index l.pieces)
