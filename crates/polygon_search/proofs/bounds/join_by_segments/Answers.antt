use Rattle.std.proofs.Common.{◌≡◌, ℕ, ◌+◌, ◌<◌, ◌≤◌, length, ◌∙◌, ap, subst, sym, inl, inr, arith}
use Rattle.std.proofs.lemmas.Bool.{cases_lt}
use Rattle.std.specs.Prelude.{slice_index}
use Rattle.polygon_search.specs.declared.bounds.Bound.{Bound}
use Rattle.polygon_search.specs.Polygon.{penalty_of}
use Rattle.polygon_search.specs.Inner.VertexBounds.{IsInWindow, bound_at}
use Rattle.polygon_search.specs.Inner.Joining.{IsFloorChange, IsLowered}
use Rattle.polygon_search.proofs.Counting.{counted}
use Rattle.polygon_search.proofs.Floors.{joined_by_segments}
use Rattle.polygon_search.proofs.Joining.{blank_more, changed_again, changed_each, joined_more}
use Rattle.polygon_search.proofs.Windowed.{end_before, end_below, last_beyond, last_within}
use Rattle.polygon_search.proofs.bounds.join_by_segments.Goals as goal

pub lower_floors-requires-clause-start : goal.lower_floors-requires-clause-start
lower_floors-requires-clause-start c =
    let s = c.args.segments.now in
    let size = length s.moments.now in
    let lasts = s.lasts.items in
    let known = counted size lasts s.onwards s.rising in
    omega (arith, c.loop-from-test.true, end_below size lasts c.args.begins.now c.args.farthest.now known c.requires.windows c.args.window c.requires.window)

pub lower_floors-requires-clause-onwards : goal.lower_floors-requires-clause-onwards
lower_floors-requires-clause-onwards c =
    let s = c.args.segments.now in
    let size = length s.moments.now in
    let lasts = s.lasts.items in
    let known = counted size lasts s.onwards s.rising in
    omega (arith, c.loop-from-test.true, end_before size lasts c.args.begins.now c.args.farthest.now known c.requires.windows c.args.window c.requires.window)

pub lower_floors-requires-clause-reached : goal.lower_floors-requires-clause-reached
lower_floors-requires-clause-reached c =
    let s = c.args.segments.now in
    let size = length s.moments.now in
    let lasts = s.lasts.items in
    let known = counted size lasts s.onwards s.rising in
    last_beyond size lasts c.args.begins.now c.args.farthest.now known c.requires.windows c.args.window c.requires.window c.loop-from.from
    (record { begin = c.loop-from.invariant.up; end = omega (arith, c.loop-from-test.true) })

pub loop-from-preserved : goal.loop-from-preserved
loop-from-preserved c =
    let s = c.args.segments.now in
    let size = length s.moments.now in
    let lasts = s.lasts.items in
    let known = counted size lasts s.onwards s.rising in
    let from : ℕ = c.loop-from.from in
    let so_far = c.loop-from.invariant in
    let inside : IsInWindow c.args.begins.now c.args.farthest.now c.args.window from =
    record { begin = so_far.up; end = omega (arith, c.loop-from-test.true) } in
    let between = end_before size lasts c.args.begins.now c.args.farthest.now known c.requires.windows c.args.window c.requires.window in
    let within = last_within size lasts c.args.begins.now c.args.farthest.now known c.requires.windows c.args.window c.requires.window from inside in
    let begin : ℕ = slice_index c.args.begins.now (c.args.window + 1) in
    let lowered = c.lower_floors.ensures in
    let is_lowered = λ (k : ℕ). IsLowered (bound_at c.loop-from.bounds from).floor (penalty_of s.moments.now from k) in
    let here = ap (λ (b : Bound). b.floor) (so_far.changed.others from (inl (omega (arith, inside.end, between)))) in
    record {
      up = omega (arith, so_far.up);
      changed = changed_again (λ k. IsFloorChange) is_lowered begin (slice_index lasts from + 1) (slice_index c.args.farthest.now (c.args.window + 1) + 1)
          c.args.bounds.now c.loop-from.bounds c.lower_floors.new.bounds (omega (arith, within))
          (λ k x y z first then. record {
            floor = omega (arith, first.floor, then.lower);
            ahead = then.ahead ∙ first.ahead;
            behind = then.behind ∙ first.behind;
          }) so_far.changed lowered;
      floors = λ i j above below on reached. elim (cases_lt i from) [
        | inl early ↦
            let lower = changed_each is_lowered (λ b a. a.floor ≤ b.floor) begin (slice_index lasts from + 1) c.loop-from.bounds c.lower_floors.new.bounds lowered
            (λ k x y is. is.lower) (λ b. omega arith) j in
            omega (arith, lower, so_far.floors i j above early on reached)
        | inr late ↦
            let same : i ≡ from = omega arith in
            let reached_by : j < slice_index lasts from + 1 = omega (arith, ap (slice_index lasts) same) in
            let floor = (lowered.changed j on reached_by).floor in
            subst (λ n. (bound_at c.lower_floors.new.bounds j).floor ≤ (bound_at c.args.bounds.now n).floor + penalty_of s.moments.now n j) (sym same) (omega (arith, floor, here))
      ];
    }

pub returns : goal.returns
returns c =
    let s = c.args.segments.now in
    let size = length s.moments.now in
    let lasts = s.lasts.items in
    let known = counted size lasts s.onwards s.rising in
    let cost = penalty_of s.moments.now in
    let so_far = c.loop-from.invariant in
    let joined = joined_by_segments size lasts c.args.begins.now c.args.farthest.now known c.requires.windows c.args.window c.requires.window cost
    c.args.bounds.now c.loop-from.bounds c.requires.bounds c.requires.blank so_far.changed
    (λ i j inside above reached. so_far.floors i j inside.begin (omega (arith, inside.end, c.loop-from-test.false)) above reached) in
    record {
      places = so_far.changed.places;
      bounds = joined_more size lasts c.args.begins.now c.args.farthest.now known c.requires.windows cost c.args.window c.requires.window
          c.args.bounds.now c.loop-from.bounds joined c.requires.bounds;
      blank = blank_more size lasts c.args.begins.now c.args.farthest.now known c.requires.windows cost c.args.window c.requires.window
          c.args.bounds.now c.loop-from.bounds joined c.requires.blank;
    }
