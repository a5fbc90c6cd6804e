use Rattle.std.proofs.lemmas.Result.{IfOk-weaker}
use Rattle.page_trace.specs.Document.{IsDocument, IsTextOf}
use Rattle.page_trace.proofs.Drawing.{drawing_is}
use Rattle.page_trace.proofs.documents.given_drawing.Goals as goal

pub returns : goal.returns
returns c =
    let settings = c.args.settings.now in
    let trace = c.in_ok-trace.trace in
    IfOk-weaker c.drawn.result (λ text. IsTextOf settings trace text.items) (λ text. IsDocument c.args.page settings text.items)
    (λ text is. drawing_is settings.backend c.args.page settings trace text.items c.requires.drawn c.in_ok-trace.ensures is) c.drawn.ensures
