use Rattle.std.proofs.Common.{ap, arith}
use Rattle.page_batches.specs.Inner.Held.{pages_held}
use Rattle.page_batches.proofs.Batching.{pages_held-held_by}
use Rattle.page_batches.proofs.batch.Batch.count.Goals as goal

-- all pages are held
pub returns : goal.returns
returns c =
    let all = pages_held-held_by c.self.inside.entries.items c.self.inside.pages.items c.self.invariant in
    let seen = ap pages_held c.self.view_is in
    omega (arith, c.len.ensures, all, seen)
