use Rattle.std.proofs.Common.{arith}
use Rattle.polygon_search.proofs.Slots.{few_slots}
use Rattle.polygon_search.proofs.search.enough_slots.Goals as goal

-- no segment has more steps than a segment may have
pub returns-clause-few : goal.returns-clause-few
returns-clause-few c =
    let next = c.next_power_of_two.ensures in
    few_slots c.most_steps.result c.next_power_of_two.result next.power (omega (arith, next.upper_bound)) (omega (arith, c.most_steps.ensures.short))
