use Rattle.std.proofs.Common.{◌-◌, ◌<◌, ◌≤◌}
use Rattle.polygon_search.proofs.blocks.next_dear.Given as goal

abbrev pub invariant-loop-next : goal.invariant-loop-next
invariant-loop-next l = record {
  up : l.block < l.next;
  within : l.next ≤ l.blocks;
}

abbrev pub decreases-loop-next : goal.decreases-loop-next
decreases-loop-next l = l.blocks - l.next
