use Rattle.least_walk.specs.Inner.Suffix.{HasFewest}
use Rattle.least_walk.proofs.suffixes.fill_counts.Given as goal

abbrev pub invariant-loop-from : goal.invariant-loop-from
invariant-loop-from g l =
    let steps = g.S.Steps in
    HasFewest (steps.size_of l.steps) (steps.is_allowed l.steps) l.from l.counts
