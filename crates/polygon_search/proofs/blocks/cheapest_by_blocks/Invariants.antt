use Rattle.std.proofs.Common.{◌+◌, ◌-◌, ◌≤◌, length}
use Rattle.std.specs.Prelude.{slice_index}
use Rattle.polygon_search.specs.Inner.Search.{IsCheaperIn, slot_of}
use Rattle.polygon_search.specs.Polygon.{penalty_of}
use Rattle.polygon_search.proofs.Passing.{before_block}
use Rattle.polygon_search.proofs.blocks.cheapest_by_blocks.Given as goal

-- the points before this block are done
abbrev pub invariant-loop-best : goal.invariant-loop-best
invariant-loop-best l = record {
  within : l.block ≤ l.blocks;
  tried : IsCheaperIn (λ k. penalty_of l.segments.moments.now l.from k + slice_index l.costs (slot_of (length l.costs) k))
      l.begin (before_block l.begin l.last l.block) l.initial.best l.best;
}

abbrev pub decreases-loop-best : goal.decreases-loop-best
decreases-loop-best l = l.blocks - l.block
