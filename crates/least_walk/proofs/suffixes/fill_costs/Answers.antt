use Rattle.std.proofs.Common.{◌≡◌, ℕ, ◌+◌, ◌-◌, ◌<◌, length, arith, get_or-set_same, set, get_or, sym, ◌∙◌, subst}
use Rattle.std.proofs.lemmas.Bool.{false≢true}
use Rattle.std.proofs.lemmas.List.{length-set}
use Rattle.least_walk.specs.Inner.Suffix.{HasCosts, HasNexts}
use Rattle.least_walk.specs.Inner.MarkedPlaces.{IsPlace}
use Rattle.least_walk.proofs.Filling.{costs_more, costs_same, nexts_more, nexts_same}
use Rattle.least_walk.proofs.Onward.{cost_at_end}
use Rattle.least_walk.proofs.suffixes.fill_costs.Goals as goal

-- from the end on nothing is left to pay, and no step is left
pub loop-from-init : goal.loop-from-init
loop-from-init g c =
    let steps = c.args.steps.now in
    let size = c.size-size.result in
    let costs = set c.args.costs.now size 0 in
    let room : size < length c.args.costs.now = omega arith in
    let nothing = get_or-set_same c.args.costs.now size 0 0 room in
    record {
      costs = λ k above within place.
          let at_end : size ≡ k = omega arith in
          cost_at_end (g.S.Steps.size_of steps) (g.S.Steps.is_allowed steps) (g.S.Steps.cost_of steps)
          k (get_or costs k 0) (omega arith) (subst (λ m. get_or costs m 0 ≡ 0) at_end nothing);
      nexts = λ k above below place. let none : ⊥ = omega arith in elim none [ ];
    }

pub loop-from-preserved-then-marks-from : goal.loop-from-preserved-then-marks-from
loop-from-preserved-then-marks-from g c =
    let steps = c.args.steps.now in
    let size = g.S.Steps.size_of steps in
    let is_allowed = g.S.Steps.is_allowed steps in
    let cost = g.S.Steps.cost_of steps in
    let i : ℕ = c.loop-from.from - 1 in
    let low : c.loop-from.from ≡ i + 1 = omega arith in
    let so_far = c.loop-from.invariant in
    record {
      costs = costs_more size is_allowed cost i c.loop-from.costs c.cheapest_from-onward.result.cost (omega (arith, c.loop-from.auto.costs, length-set c.args.costs.now c.size-size.result 0))
          (subst (λ n. HasCosts size is_allowed cost n c.loop-from.costs) low so_far.costs) c.cheapest_from-onward.ensures.cost;
      nexts = nexts_more size is_allowed cost i c.loop-from.nexts c.cheapest_from-onward.result.next (omega (arith, c.loop-from.auto.nexts))
          (subst (λ n. HasNexts size is_allowed cost n c.loop-from.nexts) low so_far.nexts) c.cheapest_from-onward.ensures.next;
    }

pub loop-from-preserved : goal.loop-from-preserved
loop-from-preserved g c =
    let steps = c.args.steps.now in
    let size = g.S.Steps.size_of steps in
    let is_allowed = g.S.Steps.is_allowed steps in
    let cost = g.S.Steps.cost_of steps in
    let i : ℕ = c.loop-from.from - 1 in
    let low : c.loop-from.from ≡ i + 1 = omega arith in
    let so_far = c.loop-from.invariant in
    let none : ¬ IsPlace size is_allowed i = λ place. false≢true (sym c.if-marks-from.false ∙ (c.requires.marks i (omega arith)).1 place) in
    record {
      costs = costs_same size is_allowed cost i c.loop-from.costs (subst (λ n. HasCosts size is_allowed cost n c.loop-from.costs) low so_far.costs) none;
      nexts = nexts_same size is_allowed cost i c.loop-from.nexts (subst (λ n. HasNexts size is_allowed cost n c.loop-from.nexts) low so_far.nexts) none;
    }
