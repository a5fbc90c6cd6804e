use Rattle.std.proofs.Common.{◌≡◌, ℕ, ◌+◌, ◌-◌, ◌<◌, length, set, inl, inr, ap, subst, sym, ◌∙◌, arith}
use Rattle.std.proofs.lemmas.Bool.{cases_lt}
use Rattle.std.specs.Prelude.{slice_index}
use Rattle.pt_core.specs.ClosedWalk.{point_at}
use Rattle.prefix_moments.proofs.Rows.{listed, listed_on_page}
use Rattle.polygon_search.specs.Inner.Lasts.{IsUpToLast}
use Rattle.polygon_search.specs.Polygon.{penalty_of}
use Rattle.polygon_search.specs.Inner.Search.{AreEnoughSlots, counts_of}
use Rattle.polygon_search.specs.Inner.Within.{AreKeptWithin, HasNextsWithin, IsLeastRest}
use Rattle.polygon_search.proofs.Counting.{counted}
use Rattle.polygon_search.proofs.Opening.{far_before, none_between}
use Rattle.polygon_search.proofs.Keeping.{kept_down}
use Rattle.polygon_search.proofs.Narrowing.{kept_on, kept_small, rest_more}
use Rattle.polygon_search.proofs.Passing.{leasts_kept}
use Rattle.polygon_search.proofs.Stepping.{before_end_too}
use Rattle.polygon_search.proofs.Windowed.{all_reach, all_vertices, begins_before, ends_before_end, is_before_window, none_beyond}
use Rattle.polygon_search.proofs.within.fill_window_within.Goals as goal

-- the window ends before the path does, and before the next one begins
pub nearest_from-nearest-requires-clause-from : goal.nearest_from-nearest-requires-clause-from
nearest_from-nearest-requires-clause-from c =
    let s = c.args.segments.now in
    ends_before_end (length s.moments.now) s.lasts.items c.args.begins.now c.args.farthest.now s.onwards s.rising c.requires.windows c.args.window c.requires.window

pub nearest_from-nearest-requires-clause-onwards : goal.nearest_from-nearest-requires-clause-onwards
nearest_from-nearest-requires-clause-onwards c =
    let s = c.args.segments.now in
    far_before (length s.moments.now) s.lasts.items (counts_of (length s.moments.now) s.lasts.items) c.args.farthest.now c.args.window _
    (is_before_window (length s.moments.now) s.lasts.items c.args.begins.now c.args.farthest.now s.onwards s.rising c.requires.windows c.args.window c.requires.window)

-- no point after the farthest one and before the next window is a vertex
pub loop-nearest-init : goal.loop-nearest-init
loop-nearest-init c =
    let s = c.args.segments.now in
    let size = length s.moments.now in
    let lasts = s.lasts.items in
    let begins = c.args.begins.now in
    let farthest = c.args.farthest.now in
    let w = is_before_window size lasts begins farthest s.onwards s.rising c.requires.windows c.args.window c.requires.window in
    let far : ℕ = slice_index farthest c.args.window in
    let begin : ℕ = slice_index begins (c.args.window + 1) in
    let before = far_before size lasts (counts_of size lasts) farthest c.args.window begin w in
    let none = none_between size lasts (counts_of size lasts) farthest c.args.window begin w in
    let gap : ℕ = begin - (far + 1) in
    let e : begin ≡ far + 1 + gap = omega arith in
    let within = w.opens.within in
    let later = subst (λ n. AreKeptWithin size (IsUpToLast lasts) (penalty_of s.moments.now) c.args.bounds.now c.args.limit n c.args.costs.now) e c.requires.later in
    let kept = kept_down size (IsUpToLast lasts) (penalty_of s.moments.now) c.args.bounds.now c.args.limit c.args.costs.now gap (far + 1) (omega arith) later
    (λ k above low. none k above (omega arith)) in
    let at = c.nearest_from-nearest.ensures in
    record {
      moments = at.moments;
      to = at.to;
      near = omega (arith, at.from);
      above = omega (arith, at.from, begins_before size lasts begins farthest s.onwards s.rising c.requires.windows c.args.window c.requires.window);
      costs = subst (λ n. AreKeptWithin size (IsUpToLast lasts) (penalty_of s.moments.now) c.args.bounds.now c.args.limit (n + 1) c.args.costs.now) (sym at.from) kept;
      nexts = λ k c' above low place. elim (cases_lt k begin) [
        | inl early ↦ absurd (none k (omega (arith, at.from)) early place)
        | inr late ↦ c.requires.later_nexts k c' late low place
      ];
      blocks = λ block k above near room. c.fill_leasts.ensures.leasts block k above near (omega (
        arith,
        none_beyond size lasts begins farthest s.onwards s.rising c.requires.windows c.args.window c.requires.window c.nearest_from-nearest.result.from
            (omega (arith, at.from, begins_before size lasts begins farthest s.onwards s.rising c.requires.windows c.args.window c.requires.window)) (omega (arith, at.from)),
      ));
      low = omega arith;
      rest = λ k c' above near. absurd (omega (arith, at.from));
    }

-- no window has more points than the costs have slots
pub fill_leasts-requires-clause-blocks : goal.fill_leasts-requires-clause-blocks
fill_leasts-requires-clause-blocks c =
    let s = c.args.segments.now in
    let size = length s.moments.now in
    let lasts = s.lasts.items in
    let begins = c.args.begins.now in
    let farthest = c.args.farthest.now in
    let before = far_before size lasts (counts_of size lasts) farthest c.args.window _
    (is_before_window size lasts begins farthest s.onwards s.rising c.requires.windows c.args.window c.requires.window) in
    let below = ends_before_end size lasts begins farthest s.onwards s.rising c.requires.windows c.args.window c.requires.window in
    let ends = c.requires.windows.ends in
    let reach : slice_index farthest (c.args.window + 1) ≡ slice_index lasts (slice_index farthest c.args.window) =
    ends.onwards c.args.window (omega (arith, ends.count, c.requires.window)) in
    let room : slice_index lasts (slice_index farthest c.args.window) < slice_index farthest c.args.window + length c.args.costs.now =
    c.requires.slots.beyond (slice_index farthest c.args.window) below in
    let some = all_reach size lasts begins farthest s.onwards s.rising c.requires.windows c.args.window c.requires.window (slice_index farthest c.args.window)
    (begins_before size lasts begins farthest s.onwards s.rising c.requires.windows c.args.window c.requires.window) (omega arith) in
    omega (arith, before, reach, room, some, c.requires.blocks)

-- both halves of a segment add no more than it costs
pub onward_within-onward-requires-clause-leasts : goal.onward_within-onward-requires-clause-leasts
onward_within-onward-requires-clause-leasts c = λ block k above near within.
    let so_far = c.loop-nearest.invariant in
    let pair = c.requires.bounds.joined c.args.window c.loop-nearest.nearest.from k (omega (arith, c.requires.window))
    (record { begin = so_far.above; end = so_far.near }) (omega (arith, so_far.to)) (omega arith) in
    omega (arith, so_far.blocks block k (omega (arith, so_far.to)) (omega (arith, so_far.to)) within, pair.halves)

-- each point of the window reaches the next one
pub onward_within-onward-requires-clause-some : goal.onward_within-onward-requires-clause-some
onward_within-onward-requires-clause-some c =
    let s = c.args.segments.now in
    let so_far = c.loop-nearest.invariant in
    omega (
      arith,
      so_far.to,
      all_reach (length s.moments.now) s.lasts.items c.args.begins.now c.args.farthest.now s.onwards s.rising c.requires.windows c.args.window c.requires.window
          c.loop-nearest.nearest.from so_far.above so_far.near,
    )

pub onward_within-onward-requires-clause-lap : goal.onward_within-onward-requires-clause-lap
onward_within-onward-requires-clause-lap c = λ before.
    let s = c.args.segments.now in
    let size = length s.moments.now in
    let lasts = s.lasts.items in
    let begins = c.args.begins.now in
    let farthest = c.args.farthest.now in
    let so_far = c.loop-nearest.invariant in
    let i : ℕ = c.loop-nearest.nearest.from in
    before_end_too size lasts (counts_of size lasts) farthest c.args.window (slice_index begins (c.args.window + 1))
    (is_before_window size lasts begins farthest s.onwards s.rising c.requires.windows c.args.window c.requires.window) i so_far.near
    (all_reach size lasts begins farthest s.onwards s.rising c.requires.windows c.args.window c.requires.window i so_far.above so_far.near)
    (omega (arith, so_far.to))

-- no way on from there counts as much as 2^56
pub onward_within-onward-requires-clause-small : goal.onward_within-onward-requires-clause-small
onward_within-onward-requires-clause-small c = λ k above near.
    let s = c.args.segments.now in
    let size = length s.moments.now in
    let lasts = s.lasts.items in
    let so_far = c.loop-nearest.invariant in
    let i : ℕ = c.loop-nearest.nearest.from in
    let here = all_vertices size lasts c.args.begins.now c.args.farthest.now s.onwards s.rising c.requires.windows c.args.window c.requires.window i so_far.above so_far.near in
    kept_small size lasts (counts_of size lasts) (counted size lasts s.onwards s.rising) (penalty_of s.moments.now) (record { few = s.few; each = s.cheap })
    c.args.bounds.now c.args.limit c.loop-nearest.costs i (slice_index c.args.begins.now (c.args.window + 1)) here
    (subst (AreEnoughSlots size lasts) (sym c.loop-nearest.auto.costs) c.requires.slots) so_far.costs k (omega (arith, so_far.to)) near

-- at the window's first point all of it is done
pub returns-then-nearest-begins-clause-costs : goal.returns-then-nearest-begins-clause-costs
returns-then-nearest-begins-clause-costs c =
    let s = c.args.segments.now in
    let size = length s.moments.now in
    let lasts = s.lasts.items in
    let so_far = c.loop-nearest.invariant in
    let i : ℕ = c.loop-nearest.nearest.from in
    let here = all_vertices size lasts c.args.begins.now c.args.farthest.now s.onwards s.rising c.requires.windows c.args.window c.requires.window i so_far.above so_far.near in
    let reach = none_beyond size lasts c.args.begins.now c.args.farthest.now s.onwards s.rising c.requires.windows c.args.window c.requires.window i so_far.above so_far.near in
    let stepped = kept_on size lasts (counts_of size lasts) (counted size lasts s.onwards s.rising) (penalty_of s.moments.now) (record { few = s.few; each = s.cheap })
    c.args.bounds.now c.args.limit c.loop-nearest.costs i (slice_index c.args.begins.now (c.args.window + 1)) here
    (subst (AreEnoughSlots size lasts) (sym c.loop-nearest.auto.costs) c.requires.slots) so_far.costs
    (λ k above near. c.requires.bounds.joined c.args.window i k (omega (arith, c.requires.window)) (record { begin = so_far.above; end = so_far.near }) above near)
    (slice_index c.args.farthest.now (c.args.window + 1)) c.args.rest reach c.requires.least_rest
    c.loop-nearest.nexts c.slot.result c.onward_within-onward.result c.requires.limit (rw so_far.to at c.onward_within-onward.ensures.onward) c.slot.ensures
    (omega (arith, c.loop-nearest.auto.nexts, c.requires.next_places, here.below)) so_far.nexts in
    let e : i ≡ slice_index c.args.begins.now c.args.window = omega (arith, c.if-nearest-begins.true) in
    subst (λ n. AreKeptWithin size (IsUpToLast lasts) (penalty_of s.moments.now) c.args.bounds.now c.args.limit n
    (set c.loop-nearest.costs c.slot.result c.onward_within-onward.result.cost)) e stepped.kept

pub returns-then-nearest-begins-clause-nexts : goal.returns-then-nearest-begins-clause-nexts
returns-then-nearest-begins-clause-nexts c =
    let s = c.args.segments.now in
    let size = length s.moments.now in
    let lasts = s.lasts.items in
    let so_far = c.loop-nearest.invariant in
    let i : ℕ = c.loop-nearest.nearest.from in
    let here = all_vertices size lasts c.args.begins.now c.args.farthest.now s.onwards s.rising c.requires.windows c.args.window c.requires.window i so_far.above so_far.near in
    let reach = none_beyond size lasts c.args.begins.now c.args.farthest.now s.onwards s.rising c.requires.windows c.args.window c.requires.window i so_far.above so_far.near in
    let stepped = kept_on size lasts (counts_of size lasts) (counted size lasts s.onwards s.rising) (penalty_of s.moments.now) (record { few = s.few; each = s.cheap })
    c.args.bounds.now c.args.limit c.loop-nearest.costs i (slice_index c.args.begins.now (c.args.window + 1)) here
    (subst (AreEnoughSlots size lasts) (sym c.loop-nearest.auto.costs) c.requires.slots) so_far.costs
    (λ k above near. c.requires.bounds.joined c.args.window i k (omega (arith, c.requires.window)) (record { begin = so_far.above; end = so_far.near }) above near)
    (slice_index c.args.farthest.now (c.args.window + 1)) c.args.rest reach c.requires.least_rest
    c.loop-nearest.nexts c.slot.result c.onward_within-onward.result c.requires.limit (rw so_far.to at c.onward_within-onward.ensures.onward) c.slot.ensures
    (omega (arith, c.loop-nearest.auto.nexts, c.requires.next_places, here.below)) so_far.nexts in
    let e : i ≡ slice_index c.args.begins.now c.args.window = omega (arith, c.if-nearest-begins.true) in
    subst (λ n. HasNextsWithin size (IsUpToLast lasts) (penalty_of s.moments.now) c.args.bounds.now c.args.limit n
    (set c.loop-nearest.nexts i c.onward_within-onward.result.next)) e stepped.written

pub returns-then-nearest-begins-clause-least_rest : goal.returns-then-nearest-begins-clause-least_rest
returns-then-nearest-begins-clause-least_rest c =
    let s = c.args.segments.now in
    let size = length s.moments.now in
    let lasts = s.lasts.items in
    let so_far = c.loop-nearest.invariant in
    let i : ℕ = c.loop-nearest.nearest.from in
    let here = all_vertices size lasts c.args.begins.now c.args.farthest.now s.onwards s.rising c.requires.windows c.args.window c.requires.window i so_far.above so_far.near in
    let reach = none_beyond size lasts c.args.begins.now c.args.farthest.now s.onwards s.rising c.requires.windows c.args.window c.requires.window i so_far.above so_far.near in
    let stepped = kept_on size lasts (counts_of size lasts) (counted size lasts s.onwards s.rising) (penalty_of s.moments.now) (record { few = s.few; each = s.cheap })
    c.args.bounds.now c.args.limit c.loop-nearest.costs i (slice_index c.args.begins.now (c.args.window + 1)) here
    (subst (AreEnoughSlots size lasts) (sym c.loop-nearest.auto.costs) c.requires.slots) so_far.costs
    (λ k above near. c.requires.bounds.joined c.args.window i k (omega (arith, c.requires.window)) (record { begin = so_far.above; end = so_far.near }) above near)
    (slice_index c.args.farthest.now (c.args.window + 1)) c.args.rest reach c.requires.least_rest
    c.loop-nearest.nexts c.slot.result c.onward_within-onward.result c.requires.limit (rw so_far.to at c.onward_within-onward.ensures.onward) c.slot.ensures
    (omega (arith, c.loop-nearest.auto.nexts, c.requires.next_places, here.below)) so_far.nexts in
    let rest = rest_more size (IsUpToLast lasts) (penalty_of s.moments.now) c.args.bounds.now c.args.limit i (slice_index c.args.farthest.now c.args.window)
    c.loop-nearest.least c.onward_within-onward.result.cost c.min-least.result stepped.exact (omega (arith, c.min-least.ensures))
    (omega (arith, c.min-least.ensures, c.left_by.ensures.sum)) so_far.rest in
    let e : i ≡ slice_index c.args.begins.now c.args.window = omega (arith, c.if-nearest-begins.true) in
    subst (λ n. IsLeastRest size (IsUpToLast lasts) (penalty_of s.moments.now) c.args.bounds.now c.args.limit n
    (slice_index c.args.farthest.now c.args.window) c.min-least.result) e rest

-- the segment from the point before is no longer than the longest one from there
pub earlier_by-nearest-requires-clause-steps : goal.earlier_by-nearest-requires-clause-steps
earlier_by-nearest-requires-clause-steps c =
    let s = c.args.segments.now in
    let size = length s.moments.now in
    let lasts = s.lasts.items in
    let so_far = c.loop-nearest.invariant in
    let i : ℕ = c.loop-nearest.nearest.from in
    let reached = all_reach size lasts c.args.begins.now c.args.farthest.now s.onwards s.rising c.requires.windows c.args.window c.requires.window
    (i - 1) (omega (arith, so_far.above, c.if-nearest-begins.false)) (omega (arith, so_far.near)) in
    let on = s.onwards (i - 1) (omega (arith, c.loop-nearest.nearest.point, ap length so_far.moments)) in
    omega (arith, so_far.to, so_far.above, c.if-nearest-begins.false, reached, on.short)

pub earlier_by-nearest-requires-clause-first : goal.earlier_by-nearest-requires-clause-first
earlier_by-nearest-requires-clause-first c =
    let s = c.args.segments.now in
    let size = length s.moments.now in
    let lasts = s.lasts.items in
    let so_far = c.loop-nearest.invariant in
    let i : ℕ = c.loop-nearest.nearest.from in
    listed s.points.now s.moments.now (i - 1) s.same (omega (arith, c.loop-nearest.nearest.point, ap length so_far.moments)) ∙ ap (λ l. point_at l (i - 1)) (sym so_far.moments)

pub earlier_by-nearest-requires-clause-on_page : goal.earlier_by-nearest-requires-clause-on_page
earlier_by-nearest-requires-clause-on_page c =
    let s = c.args.segments.now in
    let size = length s.moments.now in
    let lasts = s.lasts.items in
    let so_far = c.loop-nearest.invariant in
    let i : ℕ = c.loop-nearest.nearest.from in
    listed_on_page s.points.now s.moments.now (i - 1) s.same (omega (arith, c.loop-nearest.nearest.point, ap length so_far.moments)) s.on_page

pub loop-nearest-preserved : goal.loop-nearest-preserved
loop-nearest-preserved c =
    let s = c.args.segments.now in
    let size = length s.moments.now in
    let lasts = s.lasts.items in
    let so_far = c.loop-nearest.invariant in
    let i : ℕ = c.loop-nearest.nearest.from in
    let here = all_vertices size lasts c.args.begins.now c.args.farthest.now s.onwards s.rising c.requires.windows c.args.window c.requires.window i so_far.above so_far.near in
    let reach = none_beyond size lasts c.args.begins.now c.args.farthest.now s.onwards s.rising c.requires.windows c.args.window c.requires.window i so_far.above so_far.near in
    let stepped = kept_on size lasts (counts_of size lasts) (counted size lasts s.onwards s.rising) (penalty_of s.moments.now) (record { few = s.few; each = s.cheap })
    c.args.bounds.now c.args.limit c.loop-nearest.costs i (slice_index c.args.begins.now (c.args.window + 1)) here
    (subst (AreEnoughSlots size lasts) (sym c.loop-nearest.auto.costs) c.requires.slots) so_far.costs
    (λ k above near. c.requires.bounds.joined c.args.window i k (omega (arith, c.requires.window)) (record { begin = so_far.above; end = so_far.near }) above near)
    (slice_index c.args.farthest.now (c.args.window + 1)) c.args.rest reach c.requires.least_rest
    c.loop-nearest.nexts c.slot.result c.onward_within-onward.result c.requires.limit (rw so_far.to at c.onward_within-onward.ensures.onward) c.slot.ensures
    (omega (arith, c.loop-nearest.auto.nexts, c.requires.next_places, here.below)) so_far.nexts in
    let rest = rest_more size (IsUpToLast lasts) (penalty_of s.moments.now) c.args.bounds.now c.args.limit i (slice_index c.args.farthest.now c.args.window)
    c.loop-nearest.least c.onward_within-onward.result.cost c.min-least.result stepped.exact (omega (arith, c.min-least.ensures))
    (omega (arith, c.min-least.ensures, c.left_by.ensures.sum)) so_far.rest in
    let at = c.earlier_by-nearest.ensures in
    let e : i ≡ c.earlier_by-nearest.result.from + 1 = omega (arith, at.from, so_far.above, c.if-nearest-begins.false) in
    record {
      moments = at.moments ∙ so_far.moments;
      to = at.to ∙ so_far.to;
      near = omega (arith, e, so_far.near);
      above = omega (arith, e, so_far.above, c.if-nearest-begins.false);
      costs = subst (λ n. AreKeptWithin size (IsUpToLast lasts) (penalty_of s.moments.now) c.args.bounds.now c.args.limit n
          (set c.loop-nearest.costs c.slot.result c.onward_within-onward.result.cost)) e stepped.kept;
      nexts = subst (λ n. HasNextsWithin size (IsUpToLast lasts) (penalty_of s.moments.now) c.args.bounds.now c.args.limit n
          (set c.loop-nearest.nexts i c.onward_within-onward.result.next)) e stepped.written;
      blocks = leasts_kept c.args.bounds.now c.loop-nearest.costs (slice_index c.args.begins.now (c.args.window + 1)) i c.slot.result
          c.onward_within-onward.result.cost (slice_index lasts i + 1) (slice_index lasts c.earlier_by-nearest.result.from + 1) c.fill_leasts.new.leasts
          c.slot.ensures here.begins.above
          (omega (arith, s.rising c.earlier_by-nearest.result.from (omega (arith, e, here.below)), ap (slice_index lasts) e))
          (omega (arith, e, c.requires.slots.beyond c.earlier_by-nearest.result.from (omega (arith, e, here.below)), c.loop-nearest.auto.costs)) so_far.blocks;
      low = omega (arith, c.min-least.ensures, so_far.low);
      rest = subst (λ n. IsLeastRest size (IsUpToLast lasts) (penalty_of s.moments.now) c.args.bounds.now c.args.limit n
          (slice_index c.args.farthest.now c.args.window) c.min-least.result) e rest;
    }
