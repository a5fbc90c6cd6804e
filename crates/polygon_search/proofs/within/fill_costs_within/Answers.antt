use Rattle.std.proofs.Common.{◌≡◌, ℕ, ◌+◌, ◌-◌, ◌<◌, length, ap, sym, ◌∙◌, subst, arith}
use Rattle.std.proofs.Math.Nat.{zero-mod}
use Rattle.std.proofs.lemmas.List.{length-set}
use Rattle.std.specs.Prelude.{slice_index}
use Rattle.least_walk.specs.Inner.MarkedPlaces.{IsPlace}
use Rattle.least_walk.specs.Inner.Suffix.{IsLeastCost}
use Rattle.least_walk.proofs.Places.{place_at_start}
use Rattle.polygon_search.specs.Inner.VertexBounds.{bound_at}
use Rattle.polygon_search.specs.Inner.Lasts.{IsUpToLast}
use Rattle.polygon_search.specs.Inner.Search.{counts_of, slot_of}
use Rattle.polygon_search.specs.Inner.Within.{AreKeptWithin, HasNextsWithin, IsLeastRest}
use Rattle.polygon_search.specs.Polygon.{penalty_of}
use Rattle.polygon_search.proofs.Counting.{counted}
use Rattle.polygon_search.proofs.Keeping.{kept_within}
use Rattle.polygon_search.proofs.Slots.{kept_at_end, slot_below, some_slots}
use Rattle.polygon_search.proofs.Windowed.{last_at_end, starts_first}
use Rattle.polygon_search.proofs.within.fill_costs_within.Goals as goal

-- from the end on nothing is left to pay
pub loop-window-init : goal.loop-window-init
loop-window-init c =
    let s = c.args.segments.now in
    let size = length s.moments.now in
    let lasts = s.lasts.items in
    let end : c.len-size.result ≡ size = omega (arith, s.places) in
    let last : ℕ = length c.args.farthest.now - 1 in
    let at_end = last_at_end size lasts c.args.begins.now c.args.farthest.now s.onwards s.rising c.requires.windows last (omega (arith, c.requires.windows.ends.count)) in
    record {
      costs = kept_within size lasts (penalty_of s.moments.now) c.args.bounds.now c.args.limit _ _ (record { few = s.few; each = s.cheap })
          (kept_at_end size (IsUpToLast lasts) (penalty_of s.moments.now) c.args.costs.now (slice_index c.args.begins.now last) c.slot.result at_end
          (c.slot.ensures ∙ ap (λ n. slot_of (length c.args.costs.now) n) end)
          (omega (arith, c.slot.ensures, slot_below (length c.args.costs.now) c.len-size.result c.requires.slots.power)));
      nexts = λ k c' above below. absurd (omega (arith, at_end));
      low = omega (arith, c.left_by-rest.ensures.small);
      rest = λ k c' above near costs inside. (
          let within = c.requires.windows.ends.within last (omega (arith, c.requires.windows.ends.count)) in
          let same : c.len-size.result ≡ k = omega (arith, at_end) in
          omega (arith, c.left_by-rest.ensures.sum, ap (λ n. (bound_at c.args.bounds.now n).behind) same));
    }

pub fill_window_within-rest-requires-clause-least_rest : goal.fill_window_within-rest-requires-clause-least_rest
fill_window_within-rest-requires-clause-least_rest c =
    let s = c.args.segments.now in
    let e : c.loop-window.window ≡ c.loop-window.window - 1 + 1 = omega arith in
    subst (λ n. IsLeastRest (length s.moments.now) (IsUpToLast s.lasts.items) (penalty_of s.moments.now) c.args.bounds.now c.args.limit
    (slice_index c.args.begins.now n) (slice_index c.args.farthest.now n) c.loop-window.rest) e c.loop-window.invariant.rest

pub fill_window_within-rest-requires-clause-later_nexts : goal.fill_window_within-rest-requires-clause-later_nexts
fill_window_within-rest-requires-clause-later_nexts c =
    let s = c.args.segments.now in
    let e : c.loop-window.window ≡ c.loop-window.window - 1 + 1 = omega arith in
    subst (λ n. HasNextsWithin (length s.moments.now) (IsUpToLast s.lasts.items) (penalty_of s.moments.now) c.args.bounds.now c.args.limit
    (slice_index c.args.begins.now n) c.loop-window.nexts) e c.loop-window.invariant.nexts

-- at last the first window is done, which begins at the first point; there a polygon within the limit has paid nothing
pub returns-clause-cost : goal.returns-clause-cost
returns-clause-cost c = λ found.
    let s = c.args.segments.now in
    let size = length s.moments.now in
    let lasts = s.lasts.items in
    let known = counted size lasts s.onwards s.rising in
    let none : c.loop-window.window ≡ 0 = omega arith in
    let start = ap (slice_index c.args.begins.now) none ∙ starts_first size lasts c.args.begins.now c.args.farthest.now (counted size lasts s.onwards s.rising) c.requires.windows (omega (arith, c.requires.windows.ends.count)) in
    let all = subst (λ n. AreKeptWithin size (IsUpToLast lasts) (penalty_of s.moments.now) c.args.bounds.now c.args.limit n c.loop-window.costs) start c.loop-window.invariant.costs in
    let place : IsPlace size (IsUpToLast lasts) 0 = (0, place_at_start size (IsUpToLast lasts) (counts_of size lasts) known.fewest) in
    let some : 0 < length c.loop-window.costs =
    omega (arith, c.loop-window.auto.costs, length-set c.args.costs.now c.slot.result 0, some_slots (length c.args.costs.now) c.requires.slots.power) in
    let there = ap (slice_index c.loop-window.costs) (zero-mod (length c.loop-window.costs)) in
    let enough = all.enough 0 (omega arith) (omega arith) (omega (arith, some)) in
    let exact = all.exact 0 (omega arith) (omega arith) (omega (arith, some)) (omega (arith, c.requires.bounds.first, enough, there)) in
    subst (IsLeastCost size (IsUpToLast lasts) (penalty_of s.moments.now) 0) (sym exact ∙ there) (all.are 0 (omega arith) (omega arith) place)

pub returns-clause-nexts : goal.returns-clause-nexts
returns-clause-nexts c =
    let s = c.args.segments.now in
    let size = length s.moments.now in
    let lasts = s.lasts.items in
    let none : c.loop-window.window ≡ 0 = omega arith in
    let start = ap (slice_index c.args.begins.now) none ∙ starts_first size lasts c.args.begins.now c.args.farthest.now (counted size lasts s.onwards s.rising) c.requires.windows (omega (arith, c.requires.windows.ends.count)) in
    subst (λ n. HasNextsWithin size (IsUpToLast lasts) (penalty_of s.moments.now) c.args.bounds.now c.args.limit n c.loop-window.nexts) start c.loop-window.invariant.nexts
