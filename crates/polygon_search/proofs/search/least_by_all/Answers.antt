use Rattle.std.proofs.Common.{◌-◌, length, arith}
use Rattle.std.specs.Prelude.{slice_index}
use Rattle.least_walk.proofs.Going.{fewest_below}
use Rattle.polygon_search.specs.Inner.Lasts.{IsUpToLast}
use Rattle.polygon_search.specs.Polygon.{penalty_of}
use Rattle.polygon_search.proofs.Leading.{leads_by_all}
use Rattle.polygon_search.proofs.Windowed.{windows_fewest}
use Rattle.polygon_search.proofs.search.least_by_all.Goals as goal

-- there are as many segments as windows, without the first
pub overflow_cast-count : goal.overflow_cast-count
overflow_cast-count c =
    let s = c.args.segments.now in
    let size = length s.moments.now in
    let fewest = windows_fewest size s.lasts.items c.args.farthest.now s.onwards s.rising c.requires.ends in
    omega (arith, s.few, fewest_below size (IsUpToLast s.lasts.items) 0 (length c.args.farthest.now - 1) fewest)

pub walk_along-requires-clause-count : goal.walk_along-requires-clause-count
walk_along-requires-clause-count c =
    let s = c.args.segments.now in
    windows_fewest (length s.moments.now) s.lasts.items c.args.farthest.now s.onwards s.rising c.requires.ends

pub walk_along-requires-clause-nexts : goal.walk_along-requires-clause-nexts
walk_along-requires-clause-nexts c =
    let s = c.args.segments.now in
    leads_by_all (length s.moments.now) (IsUpToLast s.lasts.items) (penalty_of s.moments.now) c.fill_costs.new.nexts
    (slice_index c.fill_costs.new.costs 0) c.fill_costs.ensures.cost c.fill_costs.ensures.nexts
