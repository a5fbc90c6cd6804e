use Rattle.least_walk.proofs.Marking.{AreSpread}
use Rattle.least_walk.proofs.marks.fill_marks.Given as goal

abbrev pub invariant-loop-from : goal.invariant-loop-from
invariant-loop-from g l =
    AreSpread (g.S.Steps.size_of l.steps) (g.S.Steps.is_allowed l.steps) l.counts l.from l.marks
