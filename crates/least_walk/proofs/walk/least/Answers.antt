use Rattle.std.proofs.Common.{ℕ, Bool, List, sym, ◌∙◌, subst, arith}
use Rattle.least_walk.specs.Inner.MarkedPlaces.{HasMarks}
use Rattle.least_walk.specs.Inner.Suffix.{HasCosts, HasFewest, HasNexts}
use Rattle.least_walk.proofs.Lists.{unmarked, whole}
use Rattle.least_walk.proofs.walk.least.Goals as goal

-- all lists have a place for each index
pub fill_counts-requires : goal.fill_counts-requires
fill_counts-requires g c = omega (arith, c.deref_mut.ensures.len, c.in_ok-counts.ensures.len, c.size.ensures)

pub fill_marks-requires-clause-count_places : goal.fill_marks-requires-clause-count_places
fill_marks-requires-clause-count_places g c = omega (arith, c.deref.ensures.len, c.in_ok-counts.ensures.len, c.size.ensures)

pub fill_marks-requires-clause-mark_places : goal.fill_marks-requires-clause-mark_places
fill_marks-requires-clause-mark_places g c = omega (arith, c.deref_mut-2.ensures.len, c.in_ok-marks.ensures.len, c.size.ensures)

pub fill_costs-requires-clause-count_places : goal.fill_costs-requires-clause-count_places
fill_costs-requires-clause-count_places g c = omega (arith, c.deref-2.ensures.len, c.in_ok-counts.ensures.len, c.size.ensures)

pub fill_costs-requires-clause-mark_places : goal.fill_costs-requires-clause-mark_places
fill_costs-requires-clause-mark_places g c = omega (arith, c.deref-3.ensures.len, c.in_ok-marks.ensures.len, c.size.ensures)

pub fill_costs-requires-clause-cost_places : goal.fill_costs-requires-clause-cost_places
fill_costs-requires-clause-cost_places g c = omega (arith, c.deref_mut-3.ensures.len, c.in_ok-costs.ensures.len, c.size.ensures)

pub fill_costs-requires-clause-next_places : goal.fill_costs-requires-clause-next_places
fill_costs-requires-clause-next_places g c = omega (arith, c.deref_mut-4.ensures.len, c.in_ok-nexts.ensures.len, c.size.ensures)

pub walk_by-requires-clause-count_places : goal.walk_by-requires-clause-count_places
walk_by-requires-clause-count_places g c = omega (arith, c.deref-4.ensures.len, c.in_ok-counts.ensures.len, c.size.ensures)

pub walk_by-requires-clause-cost_places : goal.walk_by-requires-clause-cost_places
walk_by-requires-clause-cost_places g c = omega (arith, c.deref-5.ensures.len, c.in_ok-costs.ensures.len, c.size.ensures)

pub walk_by-requires-clause-next_places : goal.walk_by-requires-clause-next_places
walk_by-requires-clause-next_places g c = omega (arith, c.deref-6.ensures.len, c.in_ok-nexts.ensures.len, c.size.ensures)

-- and what was written is read
pub fill_marks-requires-clause-fewest : goal.fill_marks-requires-clause-fewest
fill_marks-requires-clause-fewest g c =
    let P : List ℕ → Type 0 = λ counts. HasFewest (g.S.Steps.size_of c.args.steps.now) (g.S.Steps.is_allowed c.args.steps.now) 0 counts in
    subst P (sym (c.deref.ensures.value ∙ whole c.fill_counts.new.counts _ _ (omega (arith, c.deref_mut.ensures.len, c.fill_counts.auto.counts)))) c.fill_counts.ensures

pub fill_marks-requires-clause-unmarked : goal.fill_marks-requires-clause-unmarked
fill_marks-requires-clause-unmarked g c =
    unmarked c.deref_mut-2.result.now _ (c.deref_mut-2.ensures.value ∙ c.in_ok-marks.ensures.items_if_clones_equal (λ y same. same))

pub fill_costs-requires-clause-fewest : goal.fill_costs-requires-clause-fewest
fill_costs-requires-clause-fewest g c =
    let P : List ℕ → Type 0 = λ counts. HasFewest (g.S.Steps.size_of c.args.steps.now) (g.S.Steps.is_allowed c.args.steps.now) 0 counts in
    subst P (sym (c.deref-2.ensures.value ∙ whole c.fill_counts.new.counts _ _ (omega (arith, c.deref_mut.ensures.len, c.fill_counts.auto.counts)))) c.fill_counts.ensures

pub fill_costs-requires-clause-marks : goal.fill_costs-requires-clause-marks
fill_costs-requires-clause-marks g c =
    let P : List Bool → Type 0 = λ marks. HasMarks (g.S.Steps.size_of c.args.steps.now) (g.S.Steps.is_allowed c.args.steps.now) marks in
    subst P (sym (c.deref-3.ensures.value ∙ whole c.fill_marks.new.marks _ _ (omega (arith, c.deref_mut-2.ensures.len, c.fill_marks.auto.marks)))) c.fill_marks.ensures

pub walk_by-requires-clause-counts : goal.walk_by-requires-clause-counts
walk_by-requires-clause-counts g c =
    let P : List ℕ → Type 0 = λ counts. HasFewest (g.S.Steps.size_of c.args.steps.now) (g.S.Steps.is_allowed c.args.steps.now) 0 counts in
    subst P (sym (c.deref-4.ensures.value ∙ whole c.fill_counts.new.counts _ _ (omega (arith, c.deref_mut.ensures.len, c.fill_counts.auto.counts)))) c.fill_counts.ensures

pub walk_by-requires-clause-costs : goal.walk_by-requires-clause-costs
walk_by-requires-clause-costs g c =
    let P : List ℕ → Type 0 = λ costs. HasCosts (g.S.Steps.size_of c.args.steps.now) (g.S.Steps.is_allowed c.args.steps.now) (g.S.Steps.cost_of c.args.steps.now) 0 costs in
    subst P (sym (c.deref-5.ensures.value ∙ whole c.fill_costs.new.costs _ _ (omega (arith, c.deref_mut-3.ensures.len, c.fill_costs.auto.costs)))) c.fill_costs.ensures.costs

pub walk_by-requires-clause-nexts : goal.walk_by-requires-clause-nexts
walk_by-requires-clause-nexts g c =
    let P : List ℕ → Type 0 = λ nexts. HasNexts (g.S.Steps.size_of c.args.steps.now) (g.S.Steps.is_allowed c.args.steps.now) (g.S.Steps.cost_of c.args.steps.now) 0 nexts in
    subst P (sym (c.deref-6.ensures.value ∙ whole c.fill_costs.new.nexts _ _ (omega (arith, c.deref_mut-4.ensures.len, c.fill_costs.auto.nexts)))) c.fill_costs.ensures.nexts
