use Rattle.std.proofs.Common.{ℕ, ◌≤◌}
use Rattle.std.specs.Prelude.{slice_index}
use Rattle.polygon_search.proofs.limit.chosen_of.Given as goal

abbrev pub invariant-loop-k : goal.invariant-loop-k
invariant-loop-k l = record { inside : (i : ℕ) → slice_index l.at i ≤ l.fn.end }
