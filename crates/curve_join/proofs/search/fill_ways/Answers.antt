use Rattle.std.proofs.Common.{◌≡◌, ℕ, ◌+◌, ◌-◌, List, inl, inr, length, set, get_or, get_or-set_same, sym, subst, arith}
use Rattle.std.proofs.lemmas.Bool.{cases_eq}
use Rattle.std.proofs.lemmas.List.{get_or-set_other, length-set}
use Rattle.least_walk.specs.Inner.Suffix.{HasFewest, HasNexts, IsFewestFrom}
use Rattle.least_walk.proofs.Filling.{nexts_more}
use Rattle.least_walk.proofs.Onward.{cost_at_end}
use Rattle.curve_join.proofs.Ways.{counts_more, none_left, spent_more}
use Rattle.curve_join.specs.Choice.{MayBeOne, run_penalty}
use Rattle.curve_join.specs.Inner.CutSearch.{AreJoinedRuns, AreLeastCosts, IsJoinedRun}
use Rattle.curve_join.specs.declared.bend.Bend.{Bend}
use Rattle.curve_join.specs.declared.room.JoinedRun.{JoinedRun}
use Rattle.curve_join.proofs.search.fill_ways.Goals as goal

-- the list with one more run
run_more : (bends : List Bend) (i : ℕ) (runs : List JoinedRun) (run : JoinedRun) → AreJoinedRuns bends runs → IsJoinedRun bends i run → AreJoinedRuns bends (set runs i run)
run_more bends i runs run so_far one k d within =
    let all = length-set runs i run in
    elim (cases_eq i k) [
      | inl here ↦
          let P : ℕ → Type 0 = λ m. IsJoinedRun bends m (get_or (set runs i run) m d) in
          subst P here (subst (IsJoinedRun bends i) (sym (get_or-set_same runs i run d (omega arith))) one)
      | inr there ↦ subst (IsJoinedRun bends k) (sym (get_or-set_other runs i k run d (λ e. there (sym e)))) (so_far k d (omega arith))
    ]

-- at the end of the outline no run is left, and there is nothing to pay
pub loop-from-init : goal.loop-from-init
loop-from-init c =
    let runs = c.args.runs.now in
    let bends = runs.bends.items in
    let size = c.len-size.result in
    let end : size ≡ length bends = omega arith in
    let counts = set c.args.counts.now size 0 in
    let costs = set c.args.costs.now size 0 in
    record {
      counts = λ k above within.
          let here : size ≡ k = omega arith in
          let nothing = subst (λ m. get_or counts m 0 ≡ 0) here (get_or-set_same c.args.counts.now size 0 0 (omega arith)) in
          subst (λ m. IsFewestFrom (length bends) (MayBeOne runs.tol bends) m (get_or counts k 0)) (omega arith)
          (subst (IsFewestFrom (length bends) (MayBeOne runs.tol bends) (length bends)) (sym nothing)
          (none_left (length bends) (MayBeOne runs.tol bends) (run_penalty bends)));
      costs = λ k above within.
          let here : size ≡ k = omega arith in
          let nothing = subst (λ m. get_or costs m 0 ≡ 0) here (get_or-set_same c.args.costs.now size 0 0 (omega arith)) in
          cost_at_end (length bends) (MayBeOne runs.tol bends) (run_penalty bends) k (get_or costs k 0) (omega arith) nothing;
      nexts = λ k above below place. let none : ⊥ = omega arith in elim none [ ];
      joined = λ k d within onwards. absurd (omega (arith, onwards, c.requires.none k d within));
    }

pub loop-from-preserved : goal.loop-from-preserved
loop-from-preserved c =
    let runs = c.args.runs.now in
    let bends = runs.bends.items in
    let i : ℕ = c.loop-from.from - 1 in
    let low : c.loop-from.from ≡ i + 1 = omega arith in
    let so_far = c.loop-from.invariant in
    let one = c.best_from-way.ensures in
    record {
      counts = counts_more (length bends) (MayBeOne runs.tol bends) (run_penalty bends) i c.best_from-way.result.count c.loop-from.counts
          (omega (arith, c.loop-from.auto.counts, length-set c.args.counts.now c.len-size.result 0))
          (subst (λ n. HasFewest (length bends) (MayBeOne runs.tol bends) n c.loop-from.counts) low so_far.counts) one.count;
      costs = spent_more (length bends) (MayBeOne runs.tol bends) (run_penalty bends) i c.best_from-way.result.cost c.loop-from.costs
          (omega (arith, c.loop-from.auto.costs, length-set c.args.costs.now c.len-size.result 0))
          (subst (λ n. AreLeastCosts (length bends) (MayBeOne runs.tol bends) (run_penalty bends) n c.loop-from.costs) low so_far.costs) one.cost;
      nexts = nexts_more (length bends) (MayBeOne runs.tol bends) (run_penalty bends) i c.loop-from.nexts c.best_from-way.result.next
          (omega (arith, c.loop-from.auto.nexts))
          (subst (λ n. HasNexts (length bends) (MayBeOne runs.tol bends) (run_penalty bends) n c.loop-from.nexts) low so_far.nexts) one.next;
      joined = run_more bends i c.loop-from.joined c.best_from-way.new.joined so_far.joined one.joined;
    }

pub overflow_step-from : goal.overflow_step-from
overflow_step-from c = omega (arith, c.loop-from-test.true)

pub overflow_cast-from : goal.overflow_cast-from
overflow_cast-from c = record { fits = omega (arith, c.loop-from.auto.from, c.len-size.ensures, c.args.runs.now.most) }

pub best_from-way-requires-clause-from : goal.best_from-way-requires-clause-from
best_from-way-requires-clause-from c = omega (arith, c.loop-from-test.true, c.loop-from.auto.from, c.len-size.ensures)

pub best_from-way-requires-clause-count_places : goal.best_from-way-requires-clause-count_places
best_from-way-requires-clause-count_places c = omega (arith, c.loop-from.auto.counts, length-set c.args.counts.now c.len-size.result 0, c.requires.count_places)

pub best_from-way-requires-clause-cost_places : goal.best_from-way-requires-clause-cost_places
best_from-way-requires-clause-cost_places c = omega (arith, c.loop-from.auto.costs, length-set c.args.costs.now c.len-size.result 0, c.requires.cost_places)

pub best_from-way-requires-clause-fewest : goal.best_from-way-requires-clause-fewest
best_from-way-requires-clause-fewest c = let low : c.loop-from.from ≡ c.loop-from.from - 1 + 1 = omega (arith, c.loop-from-test.true) in
    subst (λ n. HasFewest (length c.args.runs.now.bends.items) (MayBeOne c.args.runs.now.tol c.args.runs.now.bends.items) n c.loop-from.counts) low c.loop-from.invariant.counts

pub best_from-way-requires-clause-costs : goal.best_from-way-requires-clause-costs
best_from-way-requires-clause-costs c = let low : c.loop-from.from ≡ c.loop-from.from - 1 + 1 = omega (arith, c.loop-from-test.true) in
    subst (λ n. AreLeastCosts (length c.args.runs.now.bends.items) (MayBeOne c.args.runs.now.tol c.args.runs.now.bends.items) (run_penalty c.args.runs.now.bends.items) n c.loop-from.costs) low c.loop-from.invariant.costs

pub returns-clause-counts : goal.returns-clause-counts
returns-clause-counts c = let done : c.loop-from.from ≡ 0 = omega (arith, c.loop-from-test.false) in
    subst (λ n. HasFewest (length c.args.runs.now.bends.items) (MayBeOne c.args.runs.now.tol c.args.runs.now.bends.items) n c.loop-from.counts) done c.loop-from.invariant.counts

pub returns-clause-costs : goal.returns-clause-costs
returns-clause-costs c = λ k above below place. c.loop-from.invariant.costs k (omega (arith, c.loop-from-test.false)) below

pub returns-clause-nexts : goal.returns-clause-nexts
returns-clause-nexts c = let done : c.loop-from.from ≡ 0 = omega (arith, c.loop-from-test.false) in
    subst (λ n. HasNexts (length c.args.runs.now.bends.items) (MayBeOne c.args.runs.now.tol c.args.runs.now.bends.items) (run_penalty c.args.runs.now.bends.items) n c.loop-from.nexts) done c.loop-from.invariant.nexts
