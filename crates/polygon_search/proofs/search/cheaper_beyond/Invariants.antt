use Rattle.std.proofs.Common.{◌≡◌, ◌+◌, ◌≤◌, length}
use Rattle.std.specs.Prelude.{slice_index}
use Rattle.polygon_search.specs.Polygon.{penalty_of}
use Rattle.polygon_search.specs.Inner.Search.{IsCheaperIn, slot_of}
use Rattle.polygon_search.proofs.search.cheaper_beyond.Given as goal

abbrev pub invariant-loop-to : goal.invariant-loop-to
invariant-loop-to l = record {
  moments : l.grown.moments.now ≡ l.segments.moments.now;
  from : l.grown.from ≡ l.segment.from;
  to : l.grown.to + 1 ≡ l.to;
  within : l.to ≤ l.stop;
  tried : IsCheaperIn (λ k. penalty_of l.segments.moments.now l.segment.from k + slice_index l.costs (slot_of (length l.costs) k)) (l.segment.to + 1) l.to l.fn.best l.cheapest;
}
