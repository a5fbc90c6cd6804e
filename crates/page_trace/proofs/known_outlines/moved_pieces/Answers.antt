use Rattle.std.proofs.Common.{List, map, ap, ◌∙◌, arith}
use Rattle.std.proofs.lemmas.List.{take_all}
use Rattle.pt_core.specs.declared.piece.Piece.{Piece}
use Rattle.outline_copies.specs.Moved.{piece_moved_by}
use Rattle.page_trace.proofs.known_outlines.moved_pieces.Goals as goal

pub returns : goal.returns
returns c =
    let move : List Piece → List Piece = map (piece_moved_by c.args.by.right c.args.by.up) in
    c.from_vec.ensures ∙ c.loop-piece.invariant ∙ ap move (take_all c.loop-piece.piece-index c.args.pieces.now (omega (arith, c.loop-piece-test.false)))
