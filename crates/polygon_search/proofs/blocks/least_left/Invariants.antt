use Rattle.std.proofs.Common.{ℕ, ◌<◌, ◌≤◌}
use Rattle.polygon_search.specs.Inner.BlockLeasts.{left_at}
use Rattle.polygon_search.proofs.blocks.least_left.Given as goal

abbrev pub invariant-loop-at : goal.invariant-loop-at
invariant-loop-at l = record { most : (k : ℕ) → l.fn.from ≤ k → k < l.at → l.least ≤ left_at l.bounds l.costs k }
