use Rattle.std.proofs.Common.{ℕ, ◌+◌, ◌<◌, ◌≤◌, length, subst, arith}
use Rattle.std.specs.Prelude.{slice_index}
use Rattle.polygon_search.specs.declared.search.OnwardSegment.{OnwardSegment}
use Rattle.polygon_search.specs.Inner.Search.{HasCheapest, slot_of}
use Rattle.polygon_search.specs.Polygon.{penalty_of}
use Rattle.polygon_search.proofs.Counting.{last_of}
use Rattle.polygon_search.proofs.Scanning.{alone_costs, is_cheapest, tried_by, tried_none, tried_on, worth_is}
use Rattle.polygon_search.proofs.search.cheapest_by_guess.Goals as goal

pub returns : goal.returns
returns c =
    let s = c.args.segments.now in
    let points = s.moments.now in
    let costs = c.args.costs.now in
    let from : ℕ = c.args.nearest.from in
    let begin : ℕ = c.args.nearest.to in
    let to : ℕ = c.min-to.result in
    let cost_by : ℕ → ℕ = λ k. penalty_of points from k + slice_index costs (slot_of (length costs) k) in
    let there : from < length s.lasts.items = omega (arith, s.places) in
    let last = last_of s.lasts.items from c.index-last.result.now there c.index-last.ensures in
    let near : begin ≤ to = omega (arith, c.max.ensures, c.min-to.ensures, last, c.requires.some) in
    let room : to < c.index-last.result.now + 1 = omega (arith, c.min-to.ensures) in
    let guessed = c.in_lap-guessed.ensures in
    let cost = alone_costs cost_by to c.onward_by-tried.result (rw (guessed.from, guessed.to) at c.onward_by-tried.ensures) in
    let bound : OnwardSegment = record { cost = c.onward_by-tried.result.cost + 1; next = to } in
    let at = c.of-segment.ensures in
    let nearest = c.of-segment.result in
    let first = tried_by cost_by begin begin nearest.to _ bound bound c.cheaper_by-first.result (omega arith) at.to
    (worth_is (penalty_of points) costs from begin nearest.from nearest.to c.slot.result at.from at.to c.slot.ensures)
    c.cheaper_by-first.ensures.cheaper c.cheaper_by-first.ensures.same (tried_none cost_by begin bound) in
    let beyond = rw (at.from, at.to) at c.cheaper_far_beyond.ensures in
    let R : ℕ → Type 0 = λ end. HasCheapest cost_by begin (end + 1) c.cheaper_far_beyond.result in
    subst R last
    (is_cheapest cost_by begin to (c.index-last.result.now + 1) bound c.cheaper_far_beyond.result near room (omega (arith, cost))
    (tried_on cost_by begin (begin + 1) (c.index-last.result.now + 1) bound c.cheaper_by-first.result c.cheaper_far_beyond.result (omega arith) (omega arith) first beyond))
