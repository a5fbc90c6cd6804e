use Rattle.std.proofs.Common.{◌≡◌, ℕ, ◌+◌, ◌-◌, ◌<◌, ◌≤◌, length, set, get_or, inl, inr, ap, subst, sym, ◌∙◌, arith}
use Rattle.std.proofs.lemmas.Bool.{cases_lt}
use Rattle.std.specs.Prelude.{slice_index}
use Rattle.least_walk.specs.Inner.Suffix.{HasNexts}
use Rattle.pt_core.specs.ClosedWalk.{point_at}
use Rattle.prefix_moments.proofs.Rows.{listed, listed_on_page}
use Rattle.polygon_search.specs.Inner.Lasts.{IsUpToLast}
use Rattle.polygon_search.specs.Polygon.{penalty_of}
use Rattle.polygon_search.specs.Inner.Search.{AreEnoughSlots, AreKept, counts_of}
use Rattle.polygon_search.proofs.Counting.{last_of}
use Rattle.polygon_search.proofs.Opening.{far_before, far_below, far_reaches, left_here, none_between, opens_at, vertex_here}
use Rattle.polygon_search.proofs.Slots.{kept_down}
use Rattle.polygon_search.proofs.Stepping.{before_end_too, kept_on, kept_small, windows}
use Rattle.polygon_search.proofs.search.fill_window.Goals as goal
use Rattle.polygon_search.proofs.search.fill_window.Goals.{then-first-eq0-via-then-first-eq0, then-first-eq0-via-else-first-eq0+then-index-begin}

pub nearest_from-nearest-requires-clause-onwards : goal.nearest_from-nearest-requires-clause-onwards
nearest_from-nearest-requires-clause-onwards c =
    let s = c.args.segments.now in
    let size = length s.moments.now in
    let lasts = s.lasts.items in
    let counts = counts_of size lasts in
    let w = windows size lasts c.args.farthest.now c.args.window c.args.begin s.onwards s.rising c.requires.windows c.requires.window c.requires.begin in
    far_before size lasts counts c.args.farthest.now c.args.window c.args.begin w

-- no point after the farthest one and before the next window is a vertex
pub points-init : goal.points-init
points-init c =
    let s = c.args.segments.now in
    let size = length s.moments.now in
    let lasts = s.lasts.items in
    let counts = counts_of size lasts in
    let w = windows size lasts c.args.farthest.now c.args.window c.args.begin s.onwards s.rising c.requires.windows c.requires.window c.requires.begin in
    let before = far_before size lasts counts c.args.farthest.now c.args.window c.args.begin w in
    let none = none_between size lasts counts c.args.farthest.now c.args.window c.args.begin w in
    let far : ℕ = slice_index c.args.farthest.now c.args.window in
    let gap : ℕ = c.args.begin - (far + 1) in
    let e : c.args.begin ≡ far + 1 + gap = omega arith in
    let within = c.requires.begin.within in
    let later = subst (λ n. AreKept size (IsUpToLast lasts) (penalty_of s.moments.now) n c.args.costs.now) e c.requires.later in
    let kept = kept_down size (IsUpToLast lasts) (penalty_of s.moments.now) c.args.costs.now gap (far + 1) (omega arith) later (λ k above low. none k above (omega arith)) in
    let at = c.nearest_from-nearest.ensures in
    record {
      moments = at.moments;
      to = at.to;
      near = omega (arith, at.from);
      reaches = subst (λ n. c.args.begin ≤ slice_index lasts n) (sym at.from) (far_reaches size lasts counts c.args.farthest.now c.args.window c.args.begin w);
      costs = subst (λ n. AreKept size (IsUpToLast lasts) (penalty_of s.moments.now) (n + 1) c.args.costs.now) (sym at.from) kept;
      nexts = λ k above low place. elim (cases_lt k c.args.begin) [
        | inl early ↦ absurd (none k (omega (arith, at.from)) early place)
        | inr late ↦ c.requires.later_nexts k late low place
      ];
    }

-- the walk's end is a window of its own
pub cheapest_from-onward-requires-clause-lap : goal.cheapest_from-onward-requires-clause-lap
cheapest_from-onward-requires-clause-lap c = λ before.
    let s = c.args.segments.now in
    let size = length s.moments.now in
    let lasts = s.lasts.items in
    let counts = counts_of size lasts in
    let w = windows size lasts c.args.farthest.now c.args.window c.args.begin s.onwards s.rising c.requires.windows c.requires.window c.requires.begin in
    let so_far = c.points.invariant in
    let i : ℕ = c.points.nearest.from in
    before_end_too size lasts counts c.args.farthest.now c.args.window c.args.begin w i so_far.near so_far.reaches (omega (arith, so_far.to))

-- no way on from there costs as much as 2^56
pub cheapest_from-onward-requires-clause-small : goal.cheapest_from-onward-requires-clause-small
cheapest_from-onward-requires-clause-small c = λ k above near.
    let s = c.args.segments.now in
    let size = length s.moments.now in
    let lasts = s.lasts.items in
    let counts = counts_of size lasts in
    let w = windows size lasts c.args.farthest.now c.args.window c.args.begin s.onwards s.rising c.requires.windows c.requires.window c.requires.begin in
    let so_far = c.points.invariant in
    let i : ℕ = c.points.nearest.from in
    let here = vertex_here size lasts counts c.args.farthest.now c.args.window c.args.begin w i so_far.near so_far.reaches in
    let slots = subst (AreEnoughSlots size lasts) (sym c.points.auto.costs) c.requires.slots in
    kept_small size lasts counts w.known (penalty_of s.moments.now) (record { few = s.few; each = s.cheap }) c.points.costs i c.args.begin here slots so_far.costs
    k (omega (arith, so_far.to)) near

-- where no point before reaches the next window, this one begins the window
pub returns-then-first-eq0-clause-begin : goal.returns-then-first-eq0-clause-begin
returns-then-first-eq0-clause-begin c =
    let s = c.args.segments.now in
    let size = length s.moments.now in
    let lasts = s.lasts.items in
    let counts = counts_of size lasts in
    let w = windows size lasts c.args.farthest.now c.args.window c.args.begin s.onwards s.rising c.requires.windows c.requires.window c.requires.begin in
    let so_far = c.points.invariant in
    let i : ℕ = c.points.nearest.from in
    let left = left_here size lasts counts c.args.farthest.now c.args.window c.args.begin w i so_far.near so_far.reaches in
    opens_at size lasts counts c.args.farthest.now c.args.window c.args.begin w i so_far.near left
    (λ k is. elim c.then-first-eq0.branch [
      | then-first-eq0-via-then-first-eq0 w ↦ absurd (omega (arith, w.if-first-eq0.true))
      | then-first-eq0-via-else-first-eq0+then-index-begin v ↦
          let there : k < length lasts = omega (arith, s.places, so_far.near, far_below size lasts counts c.args.farthest.now c.args.window c.args.begin w) in
          let same : i - 1 ≡ k = omega arith in
          let last = last_of lasts k v.index.result.now there (subst (λ n. v.index.result.now ≡ get_or lasts n v.index.result.now) same v.index.ensures) in
          omega (arith, last, v.if-index-begin.true)
    ])

pub returns-then-first-eq0-clause-costs : goal.returns-then-first-eq0-clause-costs
returns-then-first-eq0-clause-costs c =
    let s = c.args.segments.now in
    let size = length s.moments.now in
    let lasts = s.lasts.items in
    let counts = counts_of size lasts in
    let w = windows size lasts c.args.farthest.now c.args.window c.args.begin s.onwards s.rising c.requires.windows c.requires.window c.requires.begin in
    let so_far = c.points.invariant in
    let i : ℕ = c.points.nearest.from in
    let here = vertex_here size lasts counts c.args.farthest.now c.args.window c.args.begin w i so_far.near so_far.reaches in
    let slots = subst (AreEnoughSlots size lasts) (sym c.points.auto.costs) c.requires.slots in
    let best = rw so_far.to at c.cheapest_from-onward.ensures in
    let room : i < length c.points.nexts = omega (arith, c.points.auto.nexts, c.requires.next_places, here.below) in
    let (costs, nexts) = kept_on size lasts counts w.known (penalty_of s.moments.now) (record { few = s.few; each = s.cheap }) c.points.costs i c.args.begin here slots so_far.costs
    c.points.nexts c.slot.result c.cheapest_from-onward.result best c.slot.ensures room so_far.nexts in
    costs

pub returns-then-first-eq0-clause-nexts : goal.returns-then-first-eq0-clause-nexts
returns-then-first-eq0-clause-nexts c =
    let s = c.args.segments.now in
    let size = length s.moments.now in
    let lasts = s.lasts.items in
    let counts = counts_of size lasts in
    let w = windows size lasts c.args.farthest.now c.args.window c.args.begin s.onwards s.rising c.requires.windows c.requires.window c.requires.begin in
    let so_far = c.points.invariant in
    let i : ℕ = c.points.nearest.from in
    let here = vertex_here size lasts counts c.args.farthest.now c.args.window c.args.begin w i so_far.near so_far.reaches in
    let slots = subst (AreEnoughSlots size lasts) (sym c.points.auto.costs) c.requires.slots in
    let best = rw so_far.to at c.cheapest_from-onward.ensures in
    let room : i < length c.points.nexts = omega (arith, c.points.auto.nexts, c.requires.next_places, here.below) in
    let (costs, nexts) = kept_on size lasts counts w.known (penalty_of s.moments.now) (record { few = s.few; each = s.cheap }) c.points.costs i c.args.begin here slots so_far.costs
    c.points.nexts c.slot.result c.cheapest_from-onward.result best c.slot.ensures room so_far.nexts in
    nexts

pub earlier_by-nearest-requires-clause-steps : goal.earlier_by-nearest-requires-clause-steps
earlier_by-nearest-requires-clause-steps c =
    let s = c.args.segments.now in
    let size = length s.moments.now in
    let lasts = s.lasts.items in
    let counts = counts_of size lasts in
    let w = windows size lasts c.args.farthest.now c.args.window c.args.begin s.onwards s.rising c.requires.windows c.requires.window c.requires.begin in
    let so_far = c.points.invariant in
    let i : ℕ = c.points.nearest.from in
    let below : i - 1 < length lasts = omega (arith, s.places, so_far.near, far_below size lasts counts c.args.farthest.now c.args.window c.args.begin w) in
    let last = last_of lasts (i - 1) c.index.result.now below c.index.ensures in
    let on = s.onwards (i - 1) (omega (arith, s.places)) in
    omega (arith, so_far.to, c.if-first-eq0.false, c.if-index-begin.false, last, on.short)

pub earlier_by-nearest-requires-clause-first : goal.earlier_by-nearest-requires-clause-first
earlier_by-nearest-requires-clause-first c =
    let s = c.args.segments.now in
    let size = length s.moments.now in
    let lasts = s.lasts.items in
    let counts = counts_of size lasts in
    let w = windows size lasts c.args.farthest.now c.args.window c.args.begin s.onwards s.rising c.requires.windows c.requires.window c.requires.begin in
    let so_far = c.points.invariant in
    let i : ℕ = c.points.nearest.from in
    let below : i - 1 < length lasts = omega (arith, s.places, so_far.near, far_below size lasts counts c.args.farthest.now c.args.window c.args.begin w) in
    let last = last_of lasts (i - 1) c.index.result.now below c.index.ensures in
    listed s.points.now s.moments.now (i - 1) s.same (omega (arith, s.places)) ∙ ap (λ l. point_at l (i - 1)) (sym so_far.moments)

pub earlier_by-nearest-requires-clause-on_page : goal.earlier_by-nearest-requires-clause-on_page
earlier_by-nearest-requires-clause-on_page c =
    let s = c.args.segments.now in
    let size = length s.moments.now in
    let lasts = s.lasts.items in
    let counts = counts_of size lasts in
    let w = windows size lasts c.args.farthest.now c.args.window c.args.begin s.onwards s.rising c.requires.windows c.requires.window c.requires.begin in
    let so_far = c.points.invariant in
    let i : ℕ = c.points.nearest.from in
    let below : i - 1 < length lasts = omega (arith, s.places, so_far.near, far_below size lasts counts c.args.farthest.now c.args.window c.args.begin w) in
    let last = last_of lasts (i - 1) c.index.result.now below c.index.ensures in
    listed_on_page s.points.now s.moments.now (i - 1) s.same (omega (arith, s.places)) s.on_page

pub points-preserved : goal.points-preserved
points-preserved c =
    let s = c.args.segments.now in
    let size = length s.moments.now in
    let lasts = s.lasts.items in
    let counts = counts_of size lasts in
    let w = windows size lasts c.args.farthest.now c.args.window c.args.begin s.onwards s.rising c.requires.windows c.requires.window c.requires.begin in
    let so_far = c.points.invariant in
    let i : ℕ = c.points.nearest.from in
    let here = vertex_here size lasts counts c.args.farthest.now c.args.window c.args.begin w i so_far.near so_far.reaches in
    let slots = subst (AreEnoughSlots size lasts) (sym c.points.auto.costs) c.requires.slots in
    let best = rw so_far.to at c.cheapest_from-onward.ensures in
    let room : i < length c.points.nexts = omega (arith, c.points.auto.nexts, c.requires.next_places, here.below) in
    let (costs, nexts) = kept_on size lasts counts w.known (penalty_of s.moments.now) (record { few = s.few; each = s.cheap }) c.points.costs i c.args.begin here slots so_far.costs
    c.points.nexts c.slot.result c.cheapest_from-onward.result best c.slot.ensures room so_far.nexts in
    let below : i - 1 < length lasts = omega (arith, s.places, so_far.near, far_below size lasts counts c.args.farthest.now c.args.window c.args.begin w) in
    let last = last_of lasts (i - 1) c.index.result.now below c.index.ensures in
    let at = c.earlier_by-nearest.ensures in
    let e : i ≡ c.earlier_by-nearest.result.from + 1 = omega (arith, at.from, c.if-first-eq0.false) in
    record {
      moments = at.moments ∙ so_far.moments;
      to = at.to ∙ so_far.to;
      near = omega (arith, e, so_far.near);
      reaches = subst (λ n. c.args.begin ≤ slice_index lasts n) (sym at.from) (omega (arith, last, c.if-index-begin.false));
      costs = subst (λ n. AreKept size (IsUpToLast lasts) (penalty_of s.moments.now) n (set c.points.costs c.slot.result c.cheapest_from-onward.result.cost)) e costs;
      nexts = subst (λ n. HasNexts size (IsUpToLast lasts) (penalty_of s.moments.now) n (set c.points.nexts i c.cheapest_from-onward.result.next)) e nexts;
    }
