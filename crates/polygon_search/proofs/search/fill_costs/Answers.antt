use Rattle.std.proofs.Common.{◌≡◌, ℕ, ◌<◌, List, length, ap, sym, ◌∙◌, subst, arith}
use Rattle.std.proofs.Math.Nat.{zero-mod}
use Rattle.std.proofs.lemmas.List.{length-set}
use Rattle.std.specs.Prelude.{slice_index}
use Rattle.least_walk.specs.Inner.MarkedPlaces.{IsPlace}
use Rattle.least_walk.specs.Inner.Suffix.{HasNexts, IsLeastCost}
use Rattle.least_walk.proofs.Places.{place_at_start}
use Rattle.polygon_search.specs.Inner.Lasts.{IsUpToLast}
use Rattle.polygon_search.specs.Polygon.{penalty_of}
use Rattle.polygon_search.specs.Inner.Search.{AreKept, BeginsWindow, counts_of, slot_of}
use Rattle.polygon_search.proofs.Counting.{counted}
use Rattle.polygon_search.proofs.Opening.{begins_at_end, begins_at_start}
use Rattle.polygon_search.proofs.Slots.{kept_at_end, slot_below, some_slots}
use Rattle.polygon_search.proofs.search.fill_costs.Goals as goal

-- from the end on nothing is left to pay, and no segment is left
pub loop-window-init : goal.loop-window-init
loop-window-init c =
    let s = c.args.segments.now in
    let size = length s.moments.now in
    let lasts = s.lasts.items in
    let counts = counts_of size lasts in
    let known = counted size lasts s.onwards s.rising in
    let end : c.len-size.result ≡ size = omega (arith, s.places) in
    record {
      begin = begins_at_end size lasts counts known _ _ (omega (arith, c.requires.windows.count)) end;
      costs = kept_at_end size (IsUpToLast lasts) (penalty_of s.moments.now) c.args.costs.now c.len-size.result c.slot.result end
          (c.slot.ensures ∙ ap (λ n. slot_of (length c.args.costs.now) n) end)
          (omega (arith, c.slot.ensures, slot_below (length c.args.costs.now) c.len-size.result c.requires.slots.power));
      nexts = λ k above below place. absurd (omega arith);
    }

begun : (size : ℕ) (counts : List ℕ) (window begin : ℕ) → window ≡ 0 → BeginsWindow size counts window begin → begin ≡ 0
begun size counts window begin first opens =
    begins_at_start size counts begin (subst (λ n. BeginsWindow size counts n begin) first opens)

-- at last the first window is done, which begins at the first point
pub returns-clause-cost : goal.returns-clause-cost
returns-clause-cost c =
    let s = c.args.segments.now in
    let size = length s.moments.now in
    let lasts = s.lasts.items in
    let counts = counts_of size lasts in
    let known = counted size lasts s.onwards s.rising in
    let start = begun size counts c.loop-window.window c.loop-window.begin (omega arith) c.loop-window.invariant.begin in
    let all = subst (λ n. AreKept size (IsUpToLast lasts) (penalty_of s.moments.now) n c.loop-window.costs) start c.loop-window.invariant.costs in
    let place : IsPlace size (IsUpToLast lasts) 0 = (0, place_at_start size (IsUpToLast lasts) counts known.fewest) in
    let some : 0 < length c.loop-window.costs =
    omega (arith, c.loop-window.auto.costs, length-set c.args.costs.now c.slot.result 0, some_slots (length c.args.costs.now) c.requires.slots.power) in
    let kept : slice_index c.loop-window.costs 0 ≡ slice_index all.whole 0 =
    ap (slice_index c.loop-window.costs) (sym (zero-mod (length c.loop-window.costs))) ∙ all.kept 0 (omega arith) (omega arith) (omega (arith, some)) in
    subst (IsLeastCost size (IsUpToLast lasts) (penalty_of s.moments.now) 0) (sym kept) (all.are 0 (omega arith) (omega arith) place)

pub returns-clause-nexts : goal.returns-clause-nexts
returns-clause-nexts c =
    let s = c.args.segments.now in
    let size = length s.moments.now in
    let lasts = s.lasts.items in
    let start = begun size (counts_of size lasts) c.loop-window.window c.loop-window.begin (omega arith) c.loop-window.invariant.begin in
    subst (λ n. HasNexts size (IsUpToLast lasts) (penalty_of s.moments.now) n c.loop-window.nexts) start c.loop-window.invariant.nexts
