use Rattle.page_trace.proofs.Drawing.{outlines_had}
use Rattle.page_trace.proofs.tracing.outlines_of.Goals as goal

pub returns : goal.returns
returns c = λ page paths wide high.
    outlines_had page c.args.settings.now c.args.paths.items _ paths
    (rw c.from_vec-4.ensures c.in_ok-outlines.ensures) wide high
    (rw (c.from_vec-5.ensures, c.in_ok-groups.ensures, c.deref.ensures.value))
