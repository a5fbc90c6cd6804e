use Rattle.std.proofs.Common.{◌≡◌, ◌-◌, length, subst, ◌∙◌, arith}
use Rattle.std.specs.Prelude.{slice_index}
use Rattle.least_walk.proofs.Going.{fewest_below}
use Rattle.least_walk.proofs.Lists.{whole}
use Rattle.polygon_search.specs.Inner.VertexBounds.{AreBounds}
use Rattle.polygon_search.specs.Inner.Lasts.{IsUpToLast}
use Rattle.polygon_search.specs.Inner.Within.{HasNextsWithin}
use Rattle.polygon_search.specs.Polygon.{penalty_of}
use Rattle.polygon_search.proofs.Leading.{leads_within}
use Rattle.polygon_search.proofs.Windowed.{windows_fewest}
use Rattle.polygon_search.proofs.within.least_by_bounds.Goals as goal

-- there are as many segments as windows, without the first
pub overflow_cast-count : goal.overflow_cast-count
overflow_cast-count c =
    let s = c.args.segments.now in
    let size = length s.moments.now in
    let fewest = windows_fewest size s.lasts.items c.args.farthest.now s.onwards s.rising c.requires.ends in
    omega (arith, s.few, fewest_below size (IsUpToLast s.lasts.items) 0 (length c.args.farthest.now - 1) fewest)

pub walk_along-requires-clause-count : goal.walk_along-requires-clause-count
walk_along-requires-clause-count c =
    let s = c.args.segments.now in
    windows_fewest (length s.moments.now) s.lasts.items c.args.farthest.now s.onwards s.rising c.requires.ends

-- the polygon that is found is within the limit
pub walk_along-requires-clause-nexts : goal.walk_along-requires-clause-nexts
walk_along-requires-clause-nexts c =
    let s = c.args.segments.now in
    let size = length s.moments.now in
    let lasts = s.lasts.items in
    let farthest = c.args.farthest.now in
    let begins = c.fill_begins.new.begins.items in
    let bounds = c.fill_bounds.new.bounds in
    let nexts = c.fill_costs_within.new.nexts in
    let limit = c.min-limit.result in
    let known = subst (λ list. AreBounds lasts list farthest (penalty_of s.moments.now) bounds) c.deref-2.ensures.value c.fill_bounds.ensures.bounds in
    let len = c.deref_mut.ensures.len in
    let same : c.deref-6.result.now ≡ bounds = c.deref-6.ensures.value ∙ whole bounds _ _ (omega (arith, c.fill_bounds.ensures.places)) in
    let has = subst (λ list. HasNextsWithin size (IsUpToLast lasts) (penalty_of s.moments.now) list limit 0 nexts) same c.fill_costs_within.ensures.nexts in
    let within = c.if-limit-costs.false in
    leads_within size lasts begins farthest s.onwards s.rising c.in_ok-fill_begins.ensures (penalty_of s.moments.now) bounds known limit
    (slice_index c.fill_costs_within.new.costs 0) nexts within (c.fill_costs_within.ensures.cost within) has
