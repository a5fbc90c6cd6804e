use Rattle.std.proofs.Common.{◌∷◌, [], ◌++◌, arith, get_or, ◌∙◌}
use Rattle.least_walk.proofs.Walks.{step_count-walk_from, total_cost-least, step_count-least}
use Rattle.least_walk.proofs.Written.{written_none, written_place, written_more, written_all}
use Rattle.least_walk.proofs.Places.{place_at_start}
use Rattle.least_walk.proofs.walk.walk_by.Goals as goal

pub loop-from-init : goal.loop-from-init
loop-from-init g c =
    let steps = c.args.steps.now in
    written_none (g.S.Steps.size_of steps) (g.S.Steps.is_allowed steps) (g.S.Steps.cost_of steps)
    c.in_ok-at.at.items (get_or c.args.nexts.now 0 0) c.in_ok-at.ensures.items
    (c.requires.nexts 0 (omega arith) (omega (arith, g.met.S.Steps.least_size steps))
    (0, place_at_start (g.S.Steps.size_of steps) (g.S.Steps.is_allowed steps) c.args.counts.now c.requires.counts))

pub loop-from-preserved : goal.loop-from-preserved
loop-from-preserved g c =
    let steps = c.args.steps.now in
    let from = c.loop-from.from in
    written_more (g.S.Steps.size_of steps) (g.S.Steps.is_allowed steps) (g.S.Steps.cost_of steps)
    c.loop-from.at.items c.push.new.self.items from (get_or c.args.nexts.now from 0) c.in_ok-push.ensures.items
    (c.requires.nexts from (omega arith) (omega arith)
    (written_place (g.S.Steps.size_of steps) (g.S.Steps.is_allowed steps) (g.S.Steps.cost_of steps) c.loop-from.at.items from c.loop-from.invariant))
    c.loop-from.invariant

-- each step leads onwards
pub loop-from-smaller : goal.loop-from-smaller
loop-from-smaller g c =
    let steps = c.args.steps.now in
    let from = c.loop-from.from in
    let place = written_place (g.S.Steps.size_of steps) (g.S.Steps.is_allowed steps) (g.S.Steps.cost_of steps) c.loop-from.at.items from c.loop-from.invariant in
    let next = c.requires.nexts from (omega arith) (omega arith) place in
    omega (arith, next.is_least.goes_on.0)

pub returns-clause-least : goal.returns-clause-least
returns-clause-least g c =
    let steps = c.args.steps.now in
    rw c.from_vec.ensures
    (written_all (g.S.Steps.size_of steps) (g.S.Steps.is_allowed steps) (g.S.Steps.cost_of steps)
    c.loop-from.at.items c.loop-from.from (omega arith) c.loop-from.invariant)

pub returns-clause-starts : goal.returns-clause-starts
returns-clause-starts g c =
    let steps = c.args.steps.now in
    let size = g.S.Steps.size_of steps in
    let is_allowed = g.S.Steps.is_allowed steps in
    let cost = g.S.Steps.cost_of steps in
    let starts = c.loop-from.at.items in
    let walk = written_all size is_allowed cost starts c.loop-from.from (omega arith) c.loop-from.invariant in
    let fewest = c.requires.counts 0 (omega arith) (omega arith) in
    rw c.from_vec.ensures
    (step_count-least size is_allowed cost (starts ++ size ∷ []) walk (get_or c.args.counts.now 0 0) fewest
    ∙ step_count-walk_from starts size)

pub returns-clause-count : goal.returns-clause-count
returns-clause-count g c =
    let steps = c.args.steps.now in
    let size = g.S.Steps.size_of steps in
    let is_allowed = g.S.Steps.is_allowed steps in
    let cost = g.S.Steps.cost_of steps in
    let starts = c.loop-from.at.items in
    let walk = written_all size is_allowed cost starts c.loop-from.from (omega arith) c.loop-from.invariant in
    let fewest = c.requires.counts 0 (omega arith) (omega arith) in
    rw c.from_vec.ensures
    (step_count-least size is_allowed cost (starts ++ size ∷ []) walk (get_or c.args.counts.now 0 0) fewest)

pub returns-clause-cost : goal.returns-clause-cost
returns-clause-cost g c =
    let steps = c.args.steps.now in
    let size = g.S.Steps.size_of steps in
    let is_allowed = g.S.Steps.is_allowed steps in
    let cost = g.S.Steps.cost_of steps in
    let starts = c.loop-from.at.items in
    let walk = written_all size is_allowed cost starts c.loop-from.from (omega arith) c.loop-from.invariant in
    let start = place_at_start size is_allowed c.args.counts.now c.requires.counts in
    let spent = c.requires.costs 0 (omega arith) (omega arith) (0, start) in
    rw c.from_vec.ensures
    (total_cost-least size is_allowed cost (starts ++ size ∷ []) walk (get_or c.args.costs.now 0 0) spent)
