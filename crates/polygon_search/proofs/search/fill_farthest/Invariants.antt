use Rattle.std.proofs.Common.{◌-◌, length}
use Rattle.polygon_search.specs.Inner.Search.{counts_of}
use Rattle.polygon_search.proofs.Greedy.{AreWritten}
use Rattle.polygon_search.proofs.search.fill_farthest.Given as goal

abbrev pub invariant-loop-at : goal.invariant-loop-at
invariant-loop-at l =
    let size = length l.segments.moments.now in
    AreWritten size l.segments.lasts.items (counts_of size l.segments.lasts.items) (length l.farthest.items) l.farthest.items l.at

abbrev pub decreases-loop-at : goal.decreases-loop-at
decreases-loop-at l = length l.segments.moments.now - l.at
