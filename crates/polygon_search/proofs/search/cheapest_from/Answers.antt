use Rattle.std.proofs.Common.{ℕ, ◌+◌, ◌<◌, length, ap, subst, arith}
use Rattle.std.specs.Prelude.{slice_index}
use Rattle.polygon_search.specs.Inner.Search.{HasCheapest, slot_of}
use Rattle.polygon_search.specs.Polygon.{penalty_of}
use Rattle.polygon_search.proofs.Counting.{last_of}
use Rattle.polygon_search.proofs.Scanning.{with_beyond}
use Rattle.polygon_search.proofs.search.cheapest_from.Goals as goal

pub returns : goal.returns
returns c =
    let s = c.args.segments.now in
    let costs = c.args.costs.now in
    let from : ℕ = c.args.nearest.from in
    let begin : ℕ = c.args.nearest.to in
    let cost_by : ℕ → ℕ = λ k. penalty_of s.moments.now from k + slice_index costs (slot_of (length costs) k) in
    let there : from < length s.lasts.items = omega (arith, s.places, c.args.nearest.point, ap length c.requires.nearest) in
    let last = last_of s.lasts.items from c.index-last.result.now there c.index-last.ensures in
    let at = c.of-segment.ensures in
    let first = rw (at.from, at.to) at c.onward_by-first.ensures in
    let beyond = rw (at.from, at.to) at c.cheaper_beyond.ensures in
    let R : ℕ → Type 0 = λ end. HasCheapest cost_by begin (end + 1) c.cheaper_beyond.result in
    subst R last
    (with_beyond cost_by begin (c.index-last.result.now + 1) c.onward_by-first.result c.cheaper_beyond.result (omega (arith, last, c.requires.some)) first beyond)
