use Rattle.std.proofs.Common.{◌≡◌, ℕ, ◌+◌, ◌-◌, length, inl, inr, refl, sym, subst, arith, List}
use Rattle.std.specs.Prelude.{slice_index}
use Rattle.least_walk.proofs.Cheapest.{cost_below}
use Rattle.least_walk.proofs.Going.{fewest_below}
use Rattle.curve_join.proofs.Ways.{best_more, cost_there, fewest_there, next_there, penalty_alone, up_to_itself, way_is, way_to}
use Rattle.curve_join.specs.Inner.Choice.{IsLastRun}
use Rattle.curve_join.specs.Choice.{MayBeOne, run_penalty}
use Rattle.curve_join.specs.Inner.Costs.{run_penalty_most}
use Rattle.curve_join.specs.Inner.CutSearch.{IsNotBehind}
use Rattle.std.specs.List.{All}
use Rattle.curve_join.specs.Inner.Bends.{IsWorkable}
use Rattle.curve_join.specs.declared.bend.Bend.{Bend}
use Rattle.curve_join.proofs.search.best_from.Goals as goal

-- there are at most as many runs left as pieces
pub way_by-best-requires-clause-few : goal.way_by-best-requires-clause-few
way_by-best-requires-clause-few c =
    let runs = c.args.runs.now in
    let bends = runs.bends.items in
    let next = c.args.from + 1 in
    let fewest = c.requires.fewest next (omega arith) (omega (arith, c.requires.from)) in
    omega (arith, runs.most, fewest_below (length bends) (MayBeOne runs.tol bends) next (slice_index c.args.counts.now next) fewest)

-- the way by the nearest piece is the best one if there is no other
pub loop-to-init : goal.loop-to-init
loop-to-init c =
    let runs = c.args.runs.now in
    let bends = runs.bends.items in
    let from = c.args.from in
    let best = c.way_by-best.result in
    let is = c.way_by-best.ensures in
    let last = subst (λ b. IsLastRun b c.args.from c.last_from-last.result) c.deref.ensures.value c.last_from-last.ensures in
    let alone : (k : ℕ) → k ≡ from + 1 → run_penalty bends from k ≡ 0 = λ k e. penalty_alone bends from k e in
    let next : (k : ℕ) → k ≡ from + 1 → best ≡ way_to (run_penalty bends) c.args.counts.now c.args.costs.now from k =
    λ k e.
    let P : ℕ → Type 0 = λ m. best ≡ way_to (run_penalty bends) c.args.counts.now c.args.costs.now from m in
    subst P (sym e) (way_is best _ is.count (omega (arith, is.cost, alone (from + 1) refl)) is.next) in
    record {
      best = record {
        way = (omega (arith, is.next), omega (arith, is.next, c.requires.from), inl is.next, next best.next is.next);
        least = λ k above seen within allowed. elim seen [
          | inl nearest ↦ subst (IsNotBehind best) (next k nearest) (up_to_itself best)
          | inr far ↦
              absurd (omega (arith, last.all runs.tol k allowed))
        ];
      };
      joined = c.requires.joined;
    }

pub overflow_step-to : goal.overflow_step-to
overflow_step-to c =
    let runs = c.args.runs.now in
    let last = subst (λ b. IsLastRun b c.args.from c.last_from-last.result) c.deref.ensures.value c.last_from-last.ensures in
    omega (arith, last.within, runs.most)

pub way_by-requires-clause-few : goal.way_by-requires-clause-few
way_by-requires-clause-few c =
    let runs = c.args.runs.now in
    let bends = runs.bends.items in
    let to = c.loop-to.to - 1 in
    let last = subst (λ b. IsLastRun b c.args.from c.last_from-last.result) c.deref.ensures.value c.last_from-last.ensures in
    let fewest = c.requires.fewest to (omega arith) (omega (arith, last.within)) in
    omega (arith, runs.most, fewest_below (length bends) (MayBeOne runs.tol bends) to (slice_index c.args.counts.now to) fewest)

-- the ways cost less than 2^88
pub better-best-requires-clause-small : goal.better-best-requires-clause-small
better-best-requires-clause-small c =
    let runs = c.args.runs.now in
    let bends = runs.bends.items in
    let to = c.loop-to.to - 1 in
    let last = subst (λ b. IsLastRun b c.args.from c.last_from-last.result) c.deref.ensures.value c.last_from-last.ensures in
    let spent = c.requires.costs to (omega arith) (omega (arith, last.within)) in
    omega (
      arith,
      c.way_by.ensures.cost,
      cost_below (length bends) (MayBeOne runs.tol bends) (run_penalty bends) runs.most
          (λ i j below allowed. run_penalty_most runs.tol bends i j runs.tolerance allowed) to (slice_index c.args.costs.now to) spent,
    )

pub better-best-requires-clause-within : goal.better-best-requires-clause-within
better-best-requires-clause-within c =
    let bends = c.args.runs.now.bends.items in
    let last = subst (λ b. IsLastRun b c.args.from c.last_from-last.result) c.deref.ensures.value c.last_from-last.ensures in
    omega (arith, last.within, last.few, c.way_by.ensures.next)

pub better-best-requires-clause-few : goal.better-best-requires-clause-few
better-best-requires-clause-few c =
    let bends = c.args.runs.now.bends.items in
    let last = subst (λ b. IsLastRun b c.args.from c.last_from-last.result) c.deref.ensures.value c.last_from-last.ensures in
    omega (arith, last.within, last.few, c.way_by.ensures.next)

pub better-best-requires-clause-round : goal.better-best-requires-clause-round
better-best-requires-clause-round c =
    let runs = c.args.runs.now in
    let bends = runs.bends.items in
    let last = subst (λ b. IsLastRun b c.args.from c.last_from-last.result) c.deref.ensures.value c.last_from-last.ensures in
    let next = c.way_by.ensures.next in
    last.round c.way_by.result.next (omega arith) (omega arith)

pub loop-to-preserved : goal.loop-to-preserved
loop-to-preserved c =
    let runs = c.args.runs.now in
    let bends = runs.bends.items in
    let last = subst (λ b. IsLastRun b c.args.from c.last_from-last.result) c.deref.ensures.value c.last_from-last.ensures in
    let is = c.way_by.ensures in
    let one = c.better-best.ensures in
    record {
      best = best_more (length bends) (MayBeOne runs.tol bends) (run_penalty bends) c.args.counts.now c.args.costs.now c.args.from (c.loop-to.to - 1) c.loop-to.to
          c.way_by.result c.loop-to.best c.better-best.result (omega arith) (omega (arith, last.within)) (omega arith)
          (record { count = is.count; cost = is.cost; next = is.next }) (record { one = one.one; best = one.best; run = one.run }) c.loop-to.invariant.best;
      joined = one.joined;
    }

pub returns-clause-count : goal.returns-clause-count
returns-clause-count c =
    let runs = c.args.runs.now in
    let bends = runs.bends.items in
    fewest_there (length bends) (MayBeOne runs.tol bends) (run_penalty bends) c.args.counts.now c.args.costs.now c.args.from c.loop-to.to c.loop-to.best
    c.requires.from (omega arith) (omega arith) c.requires.fewest c.requires.costs c.loop-to.invariant.best

pub returns-clause-cost : goal.returns-clause-cost
returns-clause-cost c =
    let runs = c.args.runs.now in
    let bends = runs.bends.items in
    cost_there (length bends) (MayBeOne runs.tol bends) (run_penalty bends) c.args.counts.now c.args.costs.now c.args.from c.loop-to.to c.loop-to.best
    c.requires.from (omega arith) (omega arith) c.requires.fewest c.requires.costs c.loop-to.invariant.best

pub returns-clause-next : goal.returns-clause-next
returns-clause-next c =
    let runs = c.args.runs.now in
    let bends = runs.bends.items in
    next_there (length bends) (MayBeOne runs.tol bends) (run_penalty bends) c.args.counts.now c.args.costs.now c.args.from c.loop-to.to c.loop-to.best
    c.requires.from (omega arith) (omega arith) c.requires.fewest c.requires.costs c.loop-to.invariant.best

pub last_from-last-requires-clause-small : goal.last_from-last-requires-clause-small
last_from-last-requires-clause-small c = let P : List Bend → Type 0 = λ bends. All IsWorkable bends in
    subst P (sym c.deref.ensures.value) c.args.runs.now.small

pub last_from-last-requires-clause-most : goal.last_from-last-requires-clause-most
last_from-last-requires-clause-most c = rw c.deref.ensures.value c.args.runs.now.most

pub last_from-last-requires-clause-within : goal.last_from-last-requires-clause-within
last_from-last-requires-clause-within c = rw c.deref.ensures.value c.requires.from

pub overflow_add-from : goal.overflow_add-from
overflow_add-from c = record { fits = omega (arith, c.requires.from, c.args.runs.now.most) }

pub way_by-best-requires-clause-count : goal.way_by-best-requires-clause-count
way_by-best-requires-clause-count c = omega (arith, c.requires.from, c.requires.count_places)

pub way_by-best-requires-clause-cost : goal.way_by-best-requires-clause-cost
way_by-best-requires-clause-cost c = omega (arith, c.requires.from, c.requires.cost_places)

pub overflow_add-to-start : goal.overflow_add-to-start
overflow_add-to-start c = record { fits = omega (arith, c.requires.from, c.args.runs.now.most) }

pub better-best-requires-clause-from : goal.better-best-requires-clause-from
better-best-requires-clause-from c = c.requires.from
