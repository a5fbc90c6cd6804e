use Rattle.std.proofs.Common.{◌≡◌, ◌+◌, ◌<◌, ℕ, ◌≤◌, get_or}
use Rattle.least_walk.proofs.suffixes.fewest_from.Given as goal

-- the fewest so far is reached by a step, and no step to the next index, or to one that was passed,
-- reaches fewer
abbrev pub invariant-loop-to : goal.invariant-loop-to
invariant-loop-to g l =
    let steps = g.S.Steps in
    record {
      nearest : l.fewest ≤ get_or l.counts (l.from + 1) 0 + 1;
      lowest : (k : ℕ) → l.to ≤ k → k ≤ steps.last_of l.steps l.from → steps.is_allowed l.steps l.from k
          → l.fewest ≤ get_or l.counts k 0 + 1;
      reached : (k : ℕ) × (l.from < k) × (k ≤ steps.size_of l.steps) × steps.is_allowed l.steps l.from k
          × (l.fewest ≡ get_or l.counts k 0 + 1);
    }
