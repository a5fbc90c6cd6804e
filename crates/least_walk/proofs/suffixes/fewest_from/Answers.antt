use Rattle.std.proofs.Common.{◌≡◌, ℕ, ◌+◌, ◌-◌, ◌<◌, ◌≤◌, arith, inl, inr, get_or, subst}
use Rattle.std.proofs.lemmas.Bool.{cases_lt}
use Rattle.least_walk.proofs.Going.{fewest_below}
use Rattle.least_walk.proofs.Onward.{fewest_onward}
use Rattle.least_walk.proofs.suffixes.fewest_from.Goals as goal

-- the fewest steps are at most as many as the size, 2^31
pub overflow_add-fewest-2 : goal.overflow_add-fewest-2
overflow_add-fewest-2 g c =
    let steps = c.args.steps.now in
    let next = c.args.from + 1 in
    let fewest = c.requires.later next (omega arith) (omega arith) in
    let count = get_or c.args.counts.now next 0 in
    omega (
      arith,
      g.met.S.Steps.greatest_size steps,
      fewest_below (g.S.Steps.size_of steps) (g.S.Steps.is_allowed steps) next count fewest,
    )

pub overflow_add-count : goal.overflow_add-count
overflow_add-count g c =
    let steps = c.args.steps.now in
    let to = c.loop-to.to - 1 in
    let last = g.met.S.Steps.last_is_within steps c.args.from c.requires.from in
    let fewest = c.requires.later to (omega arith) (omega arith) in
    let count = get_or c.args.counts.now to 0 in
    omega (
      arith,
      g.met.S.Steps.greatest_size steps,
      fewest_below (g.S.Steps.size_of steps) (g.S.Steps.is_allowed steps) to count fewest,
    )

-- the next index, and those from `from + 2` up to the last one, are all that a step can lead to
pub returns : goal.returns
returns g c =
    let steps = c.args.steps.now in
    let size = g.S.Steps.size_of steps in
    let is_allowed = g.S.Steps.is_allowed steps in
    let from = c.args.from in
    let fewest = c.loop-to.fewest in
    let (to, onwards, within, allowed, reached) = c.loop-to.invariant.reached in
    let lower : (k : ℕ) → from < k → k ≤ size → is_allowed from k → fewest ≤ get_or c.args.counts.now k 0 + 1 =
    λ k above below k_allowed. elim (cases_lt (from + 1) k) [
      | inl beyond ↦
          let last = g.met.S.Steps.allowed_ends_at_last steps from k c.requires.from k_allowed in
          c.loop-to.invariant.lowest k (omega arith) last k_allowed
      | inr near ↦
          let here : from + 1 ≡ k = omega arith in
          subst (λ m. fewest ≤ get_or c.args.counts.now m 0 + 1) here c.loop-to.invariant.nearest
    ] in
    fewest_onward size is_allowed c.args.counts.now from fewest c.requires.from c.requires.later lower
    to onwards within allowed reached
