use Rattle.std.proofs.Common.{◌≡◌}
use Rattle.std.specs.List.{range_with_len}
use Rattle.path_tree.proofs.free.all_free.Given as goal

-- each pointer in the list points to itself
abbrev pub invariant-loop-at : goal.invariant-loop-at
invariant-loop-at l = l.skips.items ≡ range_with_len 0 l.at
