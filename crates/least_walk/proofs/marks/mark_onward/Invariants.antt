use Rattle.least_walk.proofs.Marking.{AreOnward}
use Rattle.least_walk.proofs.marks.mark_onward.Given as goal

abbrev pub invariant-loop-to : goal.invariant-loop-to
invariant-loop-to g l =
    AreOnward (g.S.Steps.size_of l.steps) (g.S.Steps.is_allowed l.steps) l.counts l.from l.to l.fn.marks l.marks
