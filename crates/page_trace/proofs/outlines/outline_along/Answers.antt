use Rattle.std.proofs.Common.{subst}
use Rattle.std.specs.Prelude.{IfSome}
use Rattle.page_trace.specs.Inner.KnownOutlines.{AreOfKnown}
use Rattle.page_trace.proofs.Copied.{known_more, taken_along}
use Rattle.page_trace.proofs.outlines.outline_along.Goals as goal

pub returns-in-Some-2-clause-along : goal.returns-in-Some-2-clause-along
returns-in-Some-2-clause-along c =
    let points = c.as_slice-points.result.now in
    taken_along c.args.settings.now c.args.path.now c.args.known.now points c.in-Some-2.pieces c.as_slice-points.ensures c.requires.known
    (subst (λ found. IfSome found (AreOfKnown c.args.known.now points)) c.in-Some-2.is c.in_ok-pieces.ensures)

pub returns-clause-known : goal.returns-clause-known
returns-clause-known c =
    known_more c.args.settings.now c.args.path.now c.args.known.now c.note.new.known c.as_slice-points.result.now c.as_slice.result.now c.as_slice-points.ensures
    (rw c.as_slice.ensures c.in_ok-pieces-2.ensures) c.requires.known c.in_ok-note.ensures
