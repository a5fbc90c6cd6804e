use Rattle.std.proofs.Common.{ℕ, ◌-◌, ◌<◌, ◌≤◌}
use Rattle.std.specs.Prelude.{slice_index}
use Rattle.polygon_search.proofs.blocks.next_cheap.Given as goal

abbrev pub invariant-loop-next : goal.invariant-loop-next
invariant-loop-next l = record {
  up : l.block ≤ l.next;
  within : l.next ≤ l.blocks;
  dear : (b : ℕ) → l.block ≤ b → b < l.next → l.limit ≤ slice_index l.leasts b;
}

abbrev pub decreases-loop-next : goal.decreases-loop-next
decreases-loop-next l = l.blocks - l.next
