use Rattle.std.proofs.Common.{length}
use Rattle.curve_join.proofs.Ways.{IsBestTo}
use Rattle.curve_join.specs.Choice.{MayBeOne, run_penalty}
use Rattle.curve_join.specs.Inner.CutSearch.{IsJoinedRun}
use Rattle.curve_join.proofs.search.best_from.Given as goal

abbrev pub invariant-loop-to : goal.invariant-loop-to
invariant-loop-to l = record {
  best : IsBestTo (length l.runs.bends.items) (MayBeOne l.runs.tol l.runs.bends.items) (run_penalty l.runs.bends.items)
      l.counts l.costs l.from l.to l.best;
  joined : IsJoinedRun l.runs.bends.items l.from l.joined;
}
