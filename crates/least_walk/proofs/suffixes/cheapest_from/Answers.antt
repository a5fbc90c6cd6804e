use Rattle.std.proofs.Common.{◌≡◌, ℕ, suc, ◌+◌, ◌≤◌, sym, ◌∙◌, subst, arith, get_or, rules}
use Rattle.std.proofs.lemmas.Bool.{false≢true}
use Rattle.least_walk.proofs.Going.{fewest_below}
use Rattle.least_walk.proofs.Places.{fewest_step, place_onward}
use Rattle.least_walk.proofs.Cheapest.{IsCheapest, cheapest_taken, cheapest_passed, cost_below, cheapest_onward}
use Rattle.least_walk.specs.declared.suffixes.Onward.{Onward}
use Rattle.least_walk.proofs.suffixes.cheapest_from.Goals as goal
use Rattle.least_walk.proofs.suffixes.cheapest_from.Goals.{then-counts-to+then-rest-cheapest+then-allowed+then-cost-cheapest, then-counts-to+then-rest-cheapest+then-allowed+else-cost-cheapest, else-counts-to, else-counts-to-via-then-counts-to+then-rest-cheapest+else-allowed, else-counts-to-via-then-counts-to+else-rest-cheapest, else-counts-to-via-else-counts-to}

-- the fewest steps are at most as many as the size, 2^31
pub overflow_add-counts : goal.overflow_add-counts
overflow_add-counts g c =
    let steps = c.args.steps.now in
    let to = c.loop-to.to in
    let last = g.met.S.Steps.last_is_within steps c.args.from c.requires.from in
    let fewest = c.requires.fewest to (omega arith) (omega arith) in
    let count = get_or c.args.counts.now to 0 in
    omega (
      arith,
      g.met.S.Steps.greatest_size steps,
      fewest_below (g.S.Steps.size_of steps) (g.S.Steps.is_allowed steps) to count fewest,
    )

-- a walk of fewest steps takes this step
pub cost-requires-clause-fewest : goal.cost-requires-clause-fewest
cost-requires-clause-fewest g c =
    let steps = c.args.steps.now in
    let to = c.loop-to.to in
    let last = g.met.S.Steps.last_is_within steps c.args.from c.requires.from in
    let allowed : g.S.Steps.is_allowed steps c.args.from to = search rules in
    let place = c.requires.place in
    fewest_step (g.S.Steps.size_of steps) (g.S.Steps.is_allowed steps) c.args.counts.now c.requires.fewest place.0
    c.args.from to place.1 (omega arith) (omega arith) allowed (omega arith)

-- and a walk costs less than 2^88
pub overflow_add-cost : goal.overflow_add-cost
overflow_add-cost g c =
    let steps = c.args.steps.now in
    let to = c.loop-to.to in
    let last = g.met.S.Steps.last_is_within steps c.args.from c.requires.from in
    let allowed : g.S.Steps.is_allowed steps c.args.from to = search rules in
    let place = c.requires.place in
    let onward = place_onward (g.S.Steps.size_of steps) (g.S.Steps.is_allowed steps) c.args.counts.now c.requires.fewest place.0
    c.args.from to place.1 (omega arith) (omega arith) allowed (omega arith) in
    let later = c.requires.later to (omega arith) (omega arith) (suc place.0, onward) in
    let rest = get_or c.args.costs.now to 0 in
    omega (
      arith,
      c.from.ensures,
      c.cost.type_inv,
      cost_below (g.S.Steps.size_of steps) (g.S.Steps.is_allowed steps) (g.S.Steps.cost_of steps)
          (g.met.S.Steps.greatest_size steps) (g.met.S.Steps.greatest_cost steps) to rest later,
    )

pub loop-to-preserved : goal.loop-to-preserved
loop-to-preserved g c =
    let steps = c.args.steps.now in
    let from = c.args.from in
    let to = c.loop-to.to in
    let counts = c.args.counts.now in
    let Keeps : ℕ → Type 0 = λ k. g.S.Steps.is_allowed steps from k × (get_or counts k 0 + 1 ≡ get_or counts from 0) in
    let cost_by : ℕ → ℕ = λ k. g.S.Steps.cost_of steps from k + get_or c.args.costs.now k 0 in
    let best = c.loop-to.cheapest in
    let P : Onward → Type 0 = λ o. IsCheapest Keeps cost_by from (to + 1) o.cost o.next in
    let passed : (Keeps to → best.cost ≤ cost_by to) → P best =
    λ dearer. cheapest_passed Keeps cost_by from to best.cost best.next dearer c.loop-to.invariant in
    elim c.if-counts-to.branch [
      | then-counts-to+then-rest-cheapest+then-allowed+then-cost-cheapest w ↦
          subst P (sym w.cheapest-is)
          (cheapest_taken Keeps cost_by from to best.cost best.next (w.from.result + get_or c.args.costs.now to 0) (omega arith)
          (w.allowed.ensures.0 w.if-allowed.true, omega arith) (omega (arith, w.from.ensures, w.cost.ensures)) w.if-cost-cheapest.true
          c.loop-to.invariant)
      | then-counts-to+then-rest-cheapest+then-allowed+else-cost-cheapest w ↦
          subst P (sym w.cheapest-is) (passed (λ keeps. omega (arith, w.if-cost-cheapest.false, w.from.ensures, w.cost.ensures)))
      | else-counts-to w ↦ subst P (sym w.cheapest-is) (passed (λ keeps. elim w.else-counts-to.branch [
        | else-counts-to-via-then-counts-to+then-rest-cheapest+else-allowed w' ↦ absurd (false≢true (sym w'.if-allowed.false ∙ w'.allowed.ensures.1 keeps.0))
        | else-counts-to-via-then-counts-to+else-rest-cheapest w' ↦ omega arith
        | else-counts-to-via-else-counts-to w' ↦ absurd (w'.if-counts-to.false keeps.1)
      ]))
    ]

pub returns : goal.returns
returns g c =
    let steps = c.args.steps.now in
    let from = c.args.from in
    let place = c.requires.place in
    let beyond = g.met.S.Steps.last_is_beyond steps from c.requires.from in
    let last = g.met.S.Steps.last_is_within steps from c.requires.from in
    let (cost, next) = cheapest_onward (g.S.Steps.size_of steps) (g.S.Steps.is_allowed steps) (g.S.Steps.cost_of steps)
    (g.met.S.Steps.greatest_size steps) (g.met.S.Steps.greatest_cost steps) c.args.counts.now c.args.costs.now
    from c.loop-to.to c.loop-to.cheapest.cost c.loop-to.cheapest.next c.requires.from
    (λ k above within. c.requires.fewest k (omega arith) within)
    (λ k above within allowed keeps. c.requires.later k (omega arith) within
    (suc place.0, place_onward (g.S.Steps.size_of steps) (g.S.Steps.is_allowed steps) c.args.counts.now c.requires.fewest place.0 from k place.1 above within allowed keeps))
    (λ k k_allowed. omega (arith, g.met.S.Steps.allowed_ends_at_last steps from k c.requires.from k_allowed))
    (omega arith) c.loop-to.invariant in
    record { cost = cost; next = next }
