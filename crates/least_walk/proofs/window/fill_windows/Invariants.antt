use Rattle.std.proofs.Common.{◌≡◌, ◌+◌, length}
use Rattle.std.specs.Prelude.{slice_index}
use Rattle.least_walk.proofs.Widening.{AreBelow}
use Rattle.least_walk.proofs.window.fill_windows.Given as goal

-- the marked indices so far are in their windows
abbrev pub invariant-loop-index : goal.invariant-loop-index
invariant-loop-index g l = record {
  one_each : length l.windows ≡ slice_index l.counts 0 + 1;
  below : AreBelow (g.S.Steps.size_of l.steps) l.counts l.marks l.index l.windows;
}
