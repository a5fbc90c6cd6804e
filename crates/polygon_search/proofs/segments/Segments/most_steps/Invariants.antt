use Rattle.std.proofs.Common.{ℕ, ◌+◌, ◌<◌, ◌≤◌}
use Rattle.std.specs.Prelude.{slice_index}
use Rattle.pt_core.specs.declared.limits.TheConstants.{MOST_STEPS}
use Rattle.polygon_search.proofs.segments.Segments.most_steps.Given as goal

-- no segment so far has more steps
abbrev pub invariant-loop-i : goal.invariant-loop-i
invariant-loop-i l = record {
  each : (k : ℕ) → k < l.i → slice_index l.self.lasts.items k ≤ k + l.most;
  short : l.most ≤ MOST_STEPS;
}
