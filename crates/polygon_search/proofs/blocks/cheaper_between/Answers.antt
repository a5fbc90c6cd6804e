use Rattle.std.proofs.Common.{ℕ, ◌+◌, length, arith}
use Rattle.std.specs.Prelude.{slice_index}
use Rattle.polygon_search.specs.Inner.Search.{slot_of}
use Rattle.polygon_search.specs.Polygon.{penalty_of}
use Rattle.polygon_search.proofs.Scanning.{tried_by, tried_none, tried_on, worth_is}
use Rattle.polygon_search.proofs.blocks.cheaper_between.Goals as goal

pub returns : goal.returns
returns c =
    let points = c.args.segments.now.moments.now in
    let costs = c.args.costs.now in
    let from : ℕ = c.args.from in
    let begin : ℕ = c.args.begin in
    let cost_by : ℕ → ℕ = λ k. penalty_of points from k + slice_index costs (slot_of (length costs) k) in
    let at = c.in_lap-segment.ensures in
    let segment = c.in_lap-segment.result in
    let first = tried_by cost_by begin begin segment.to _ c.args.best c.args.best c.cheaper_by-first.result (omega arith) at.to
    (worth_is (penalty_of points) costs from begin segment.from segment.to c.slot.result at.from at.to c.slot.ensures)
    c.cheaper_by-first.ensures.cheaper c.cheaper_by-first.ensures.same (tried_none cost_by begin c.args.best) in
    let beyond = rw (at.from, at.to) at c.cheaper_far_beyond.ensures in
    tried_on cost_by begin (begin + 1) c.args.stop c.args.best c.cheaper_by-first.result c.cheaper_far_beyond.result
    (omega arith) (omega (arith, c.requires.some)) first beyond
