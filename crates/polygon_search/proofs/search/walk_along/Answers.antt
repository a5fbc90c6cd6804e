use Rattle.std.proofs.Common.{◌<◌, ◌≤◌, ◌∷◌, [], ◌++◌, length, arith, get_or, ◌∙◌}
use Rattle.least_walk.specs.LeastWalk.{IsLeast}
use Rattle.least_walk.proofs.Places.{place_at_start}
use Rattle.least_walk.proofs.Walks.{step_count-walk_from, total_cost-least, step_count-least}
use Rattle.least_walk.proofs.Written.{written_none, written_more, written_all}
use Rattle.polygon_search.specs.Inner.Lasts.{IsUpToLast}
use Rattle.polygon_search.specs.Polygon.{penalty_of}
use Rattle.polygon_search.specs.Inner.Search.{counts_of}
use Rattle.polygon_search.proofs.Counting.{counts_fewest}
use Rattle.polygon_search.proofs.Leading.{leads_more, leads_next}
use Rattle.polygon_search.proofs.search.walk_along.Goals as goal

pub loop-from-init : goal.loop-from-init
loop-from-init c =
    let s = c.args.segments.now in
    let size = length s.moments.now in
    record {
      written = written_none size (IsUpToLast s.lasts.items) (penalty_of s.moments.now)
          c.in_ok-at.at.items (get_or c.args.nexts.now 0 0) c.in_ok-at.ensures.items
          (c.requires.nexts.each 0 c.args.cost (omega (arith, s.some)) (
            0,
            place_at_start size (IsUpToLast s.lasts.items) (counts_of size s.lasts.items)
                (counts_fewest size s.lasts.items s.onwards s.rising),
          ) c.requires.cost (c.requires.nexts.start c.args.cost c.requires.cost));
      leads = c.requires.nexts;
    }

pub loop-from-preserved : goal.loop-from-preserved
loop-from-preserved c =
    let s = c.args.segments.now in
    let size = length s.moments.now in
    let from = c.loop-from.from in
    let so_far = c.loop-from.invariant in
    let below : from < size = omega (arith, s.places) in
    record {
      written = written_more size (IsUpToLast s.lasts.items) (penalty_of s.moments.now)
          c.loop-from.at.items c.push.new.self.items from (get_or c.args.nexts.now from 0) c.in_ok-push.ensures.items
          (leads_next size (IsUpToLast s.lasts.items) (penalty_of s.moments.now) c.args.nexts.now from below c.loop-from.at.items so_far.written so_far.leads)
          so_far.written;
      leads = leads_more size (IsUpToLast s.lasts.items) (penalty_of s.moments.now) c.args.nexts.now from below c.loop-from.at.items so_far.written so_far.leads;
    }

-- each segment leads onwards
pub loop-from-smaller : goal.loop-from-smaller
loop-from-smaller c =
    let s = c.args.segments.now in
    let from = c.loop-from.from in
    let so_far = c.loop-from.invariant in
    let below : from < length s.moments.now = omega (arith, s.places) in
    let next = leads_next (length s.moments.now) (IsUpToLast s.lasts.items) (penalty_of s.moments.now) c.args.nexts.now from below
    c.loop-from.at.items so_far.written so_far.leads in
    omega (arith, next.is_least.goes_on.0)

pub returns : goal.returns
returns c =
    let s = c.args.segments.now in
    let size = length s.moments.now in
    let is_allowed = IsUpToLast s.lasts.items in
    let starts = c.loop-from.at.items in
    let end : size ≤ c.loop-from.from = omega (arith, s.places) in
    let walk : IsLeast size is_allowed (penalty_of s.moments.now) (starts ++ size ∷ []) = written_all size is_allowed (penalty_of s.moments.now)
    starts c.loop-from.from end c.loop-from.invariant.written in
    let steps = step_count-least size is_allowed (penalty_of s.moments.now) (starts ++ size ∷ []) walk c.args.count c.requires.count in
    rw c.from_vec.ensures (record {
      least = walk;
      starts = steps ∙ step_count-walk_from starts size;
      count = steps;
      cost = c.from.ensures ∙ total_cost-least size is_allowed (penalty_of s.moments.now) (starts ++ size ∷ []) walk c.args.cost c.requires.cost;
    })
