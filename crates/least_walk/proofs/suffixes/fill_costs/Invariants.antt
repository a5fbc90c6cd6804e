use Rattle.least_walk.specs.Inner.Suffix.{HasCosts, HasNexts}
use Rattle.least_walk.proofs.suffixes.fill_costs.Given as goal

abbrev pub invariant-loop-from : goal.invariant-loop-from
invariant-loop-from g l =
    let steps = g.S.Steps in
    let size = steps.size_of l.steps in
    record {
      costs : HasCosts size (steps.is_allowed l.steps) (steps.cost_of l.steps) l.from l.costs;
      nexts : HasNexts size (steps.is_allowed l.steps) (steps.cost_of l.steps) l.from l.nexts;
    }
