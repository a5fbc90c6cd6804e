use Rattle.std.proofs.Common.{◌≡◌, ◌+◌, get_or}
use Rattle.least_walk.proofs.Cheapest.{IsCheapest}
use Rattle.least_walk.proofs.suffixes.cheapest_from.Given as goal

abbrev pub invariant-loop-to : goal.invariant-loop-to
invariant-loop-to g l =
    let steps = g.S.Steps in
    IsCheapest (λ k. steps.is_allowed l.steps l.from k × (get_or l.counts k 0 + 1 ≡ l.count))
    (λ k. steps.cost_of l.steps l.from k + get_or l.costs k 0)
    l.from l.to l.cheapest.cost l.cheapest.next
