use Rattle.std.proofs.Common.{◌≡◌, ℕ, ◌+◌, ◌<◌, ◌-◌, ◌≤◌, min, List, length, slice_range, get_or, drop, ap, ◌∙◌, sym, subst, arith}
use Rattle.std.proofs.Math.Nat.{mod-eq_of_lt}
use Rattle.std.proofs.lemmas.List.{length-take}
use Rattle.std.specs.Prelude.{slice_index_or}
use Rattle.pt_core.specs.ClosedWalk.{point_at, origin}
use Rattle.pt_core.specs.OnPage.{IsOnPage}
use Rattle.polygon_search.specs.Polygon.{penalty_of}
use Rattle.outline_check.specs.declared.label.Label.{Label}
use Rattle.outline_check.specs.declared.onward.Onward.{Onward}
use Rattle.outline_check.specs.declared.onward.Window.{Window}
use Rattle.outline_check.specs.Labels.{label_at, label_by, no_label}
use Rattle.outline_check.specs.Inner.LabelPoints.{IsCheapestBefore, onward_by}
use Rattle.outline_check.proofs.Trying.{label_in, last_is_next, tried_more}
use Rattle.outline_check.proofs.onward.cheapest_of_many.Goals as goal

module _ (cost : ℕ → ℕ → ℕ) (labels : List Label) (from begin last to : ℕ) (room : begin ≤ to) (near : to ≤ last) where
  -- one more segment, whose numbers are known by other names
  tried_by : (j : ℕ) (so_far best : Onward) → j ≡ to
      → ((label_by cost labels from j).cost < so_far.cost → best ≡ onward_by cost labels from j)
      → (so_far.cost ≤ (label_by cost labels from j).cost → best ≡ so_far)
      → IsCheapestBefore cost labels from begin last to so_far
      → IsCheapestBefore cost labels from begin last (j + 1) best
  tried_by j so_far best ej taken kept is =
      subst (λ n. IsCheapestBefore cost labels from begin last (n + 1) best) (sym ej)
      (tried_more cost labels from begin last to so_far best room near (rw ej at taken) (rw ej at kept) is)

pub loop-label-init : goal.loop-label-init
loop-label-init c =
    let begin : ℕ = c.args.window.now.begin in
    let is = c.between-segment.ensures in
    record {
      moments = is.moments;
      from = is.from;
      to = omega (arith, is.to);
      tried = tried_by (penalty_of c.args.window.now.segments.now.moments) c.args.window.now.labels.now c.args.window.now.start.from
          begin c.args.window.now.last begin (omega arith) c.args.window.now.ordered
          c.between-segment.result.to c.args.tried c.cheaper_by-best.result is.to
          c.cheaper_by-best.ensures.cheaper c.cheaper_by-best.ensures.same c.requires.tried;
    }

pub loop-label-preserved : goal.loop-label-preserved
loop-label-preserved c =
    let window = c.args.window.now in
    let so_far = c.loop-label.invariant in
    let is = c.longer_by-segment.ensures in
    let to : ℕ = c.loop-label.segment.to + 1 in
    let near : to ≤ window.last = omega (arith) in
    record {
      moments = is.moments ∙ so_far.moments;
      from = is.from ∙ so_far.from;
      to = omega (arith, is.to, so_far.to);
      tried = tried_by (penalty_of window.segments.now.moments) window.labels.now window.start.from
          window.begin window.last to (omega (arith, so_far.to)) near
          c.longer_by-segment.result.to c.loop-label.best c.cheaper_by-best-in-loop-label.result
          is.to c.cheaper_by-best-in-loop-label.ensures.cheaper c.cheaper_by-best-in-loop-label.ensures.same so_far.tried;
    }

-- the labels of the points in between are looked up in a row
cost_in : (labels : List Label) (i j k : ℕ) → k < length (slice_range labels i j) → (get_or (slice_range labels i j) k no_label).cost ≡ (label_at labels (i + k)).cost
cost_in labels i j k h = ap (λ (l : Label). l.cost) (label_in labels i j k h)

-- and each is that of a point of the first lap
in_lap : (labels : List Label) (begin end last size index : ℕ) → end ≡ min (last + 1) size → index < length (slice_range labels (begin + 1) end)
    → begin + 1 + index < size
in_lap labels begin end last size index is below = omega (arith, length-take (end - (begin + 1)) (drop (begin + 1) labels), is, below)

pub overflow_cast-label : goal.overflow_cast-label
overflow_cast-label c =
    let window = c.args.window.now in
    let index = c.loop-label.label-index in
    let end = c.min-end.result in
    let same = cost_in window.labels.now (window.begin + 1) end index c.loop-label-test.true in
    let within = in_lap window.labels.now window.begin end window.last c.size.result index c.min-end.ensures c.loop-label-test.true in
    omega (arith, same, window.small (window.begin + 1 + index) (omega (arith, window.onwards)) (omega (arith, within, c.size.ensures)))

-- so the point after those that were tried is looked up in the list
next_is : (window : Window) (end size index to : ℕ) → end ≡ min (window.last + 1) size → size ≡ length window.segments.now.moments
    → index < length (slice_range window.labels.now (window.begin + 1) end) → to ≡ window.begin + index
    → slice_index_or window.segments.now.points.now (to + 1) origin ≡ point_at window.segments.now.moments (to + 1)
next_is window end size index to is all below here =
    let s = window.segments.now in
    let within = in_lap window.labels.now window.begin end window.last size index is below in
    ap (λ l. slice_index_or l (to + 1) origin) s.same ∙ ap (λ n. slice_index_or s.moments n origin) (sym (mod-eq_of_lt (omega (arith, within, all, here))))

pub longer_by-segment-requires-clause-last : goal.longer_by-segment-requires-clause-last
longer_by-segment-requires-clause-last c =
    let so_far = c.loop-label.invariant in
    next_is c.args.window.now c.min-end.result c.size.result c.loop-label.label-index c.loop-label.segment.to
    c.min-end.ensures c.size.ensures c.loop-label-test.true so_far.to
    ∙ ap (λ points. point_at points (c.loop-label.segment.to + 1)) (sym so_far.moments)

pub longer_by-segment-requires-clause-on_page : goal.longer_by-segment-requires-clause-on_page
longer_by-segment-requires-clause-on_page c =
    let window = c.args.window.now in
    let to : ℕ = c.loop-label.segment.to in
    let is = next_is window c.min-end.result c.size.result c.loop-label.label-index to c.min-end.ensures c.size.ensures c.loop-label-test.true c.loop-label.invariant.to in
    subst IsOnPage (sym is) (window.segments.now.on_page (to + 1))

-- the last one is the walk's end
pub cheaper_by-best-requires-then-segment-window-clause-rest : goal.cheaper_by-best-requires-then-segment-window-clause-rest
cheaper_by-best-requires-then-segment-window-clause-rest c =
    let window = c.args.window.now in
    let labels = window.labels.now in
    let end = last_is_next window c.size.result c.min-end.result c.loop-label.label-index c.loop-label.segment.to c.size.ensures c.requires.wide
    (omega (arith, c.min-end.ensures)) c.loop-label-test.false c.loop-label.auto.label-index-end c.loop-label.invariant.to c.if-segment-window.true in
    let here : window.last ≡ c.longer-segment.result.to = omega (arith, end, c.longer-segment.ensures.to) in
    c.rest-then-segment-window.ensures.value ∙ ap (λ n. (label_at labels n).cost) here

pub returns-then-segment-window : goal.returns-then-segment-window
returns-then-segment-window c =
    let window = c.args.window.now in
    let labels = window.labels.now in
    let end = last_is_next window c.size.result c.min-end.result c.loop-label.label-index c.loop-label.segment.to c.size.ensures c.requires.wide
    (omega (arith, c.min-end.ensures)) c.loop-label-test.false c.loop-label.auto.label-index-end c.loop-label.invariant.to c.if-segment-window.true in
    let so_far = c.loop-label.invariant in
    let is = c.longer-segment.ensures in
    let to : ℕ = c.loop-label.segment.to + 1 in
    let there : c.longer-segment.result.to ≡ window.last = omega (arith, end, is.to) in
    subst (λ n. IsCheapestBefore (penalty_of window.segments.now.moments) labels window.start.from window.begin window.last (n + 1) c.cheaper_by-best-then-segment-window.result) there
    (tried_by (penalty_of window.segments.now.moments) labels window.start.from window.begin window.last to (omega (arith, so_far.to)) (omega (arith, end))
    c.longer-segment.result.to c.loop-label.best c.cheaper_by-best-then-segment-window.result is.to
    c.cheaper_by-best-then-segment-window.ensures.cheaper c.cheaper_by-best-then-segment-window.ensures.same so_far.tried)
