use Rattle.std.proofs.Common.{length}
use Rattle.least_walk.specs.Inner.Suffix.{HasFewest, HasNexts}
use Rattle.curve_join.specs.Choice.{MayBeOne, run_penalty}
use Rattle.curve_join.specs.Inner.CutSearch.{AreJoinedRuns, AreLeastCosts}
use Rattle.curve_join.proofs.search.fill_ways.Given as goal

abbrev pub invariant-loop-from : goal.invariant-loop-from
invariant-loop-from l =
    let bends = l.runs.bends.items in
    record {
      counts : HasFewest (length bends) (MayBeOne l.runs.tol bends) l.from l.counts;
      costs : AreLeastCosts (length bends) (MayBeOne l.runs.tol bends) (run_penalty bends) l.from l.costs;
      nexts : HasNexts (length bends) (MayBeOne l.runs.tol bends) (run_penalty bends) l.from l.nexts;
      joined : AreJoinedRuns bends l.joined;
    }
