use Rattle.std.proofs.Common.{◌≡◌, List, map, ap, ◌∙◌}
use Rattle.std.specs.Prelude.{IfSome}
use Rattle.std.proofs.lemmas.Option.{IfSome_then}
use Rattle.std.proofs.lemmas.Result.{IfOk-weaker}
use Rattle.pt_core.specs.declared.piece.Piece.{Piece}
use Rattle.outline_copies.specs.Moved.{piece_moved_by}
use Rattle.page_trace.specs.Inner.KnownOutlines.{AreOfKnown}
use Rattle.page_trace.proofs.Copied.{of_known}
use Rattle.page_trace.proofs.known_outlines.taken.Goals as goal

pub returns : goal.returns
returns c =
    let path = c.in-Some.path.now in
    let by = c.in-Some-way_between.by in
    let Moved : List Piece → Type 0 = λ moved. moved ≡ map (piece_moved_by by.right by.up) c.as_slice.result.now in
    let Taken : List Piece → Type 0 = AreOfKnown c.args.known.now c.args.points.now in
    IfOk-weaker c.moved_pieces.result (λ found. IfSome found Moved) (λ found. IfSome found Taken)
    (λ found told. IfSome_then found told
    (λ pieces is. of_known c.args.known.now path c.as_slice-start.result.now c.args.points.now pieces by.right by.up c.requires.some c.as_slice-start.ensures
    c.in-Some.ensures.known c.in-Some.ensures.copy c.in-Some-way_between.ensures.right c.in-Some-way_between.ensures.up
    (is ∙ ap (map (piece_moved_by by.right by.up)) c.as_slice.ensures))) c.moved_pieces.ensures
