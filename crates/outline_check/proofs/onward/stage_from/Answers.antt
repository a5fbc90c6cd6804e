use Rattle.std.proofs.Common.{◌≡◌, ℕ, ◌+◌, ◌<◌, ◌≤◌, List, length, get_or, sym, ap, ◌∙◌, subst, arith}
use Rattle.std.proofs.lemmas.List.{get_or_default}
use Rattle.std.specs.Prelude.{slice_index}
use Rattle.polygon_search.specs.Polygon.{penalty_of}
use Rattle.outline_check.proofs.Right.{in_window, label_same, right_in_window}
use Rattle.outline_check.specs.Labels.{label_at, label_by}
use Rattle.outline_check.proofs.Trying.{tried_none}
use Rattle.outline_check.proofs.onward.stage_from.Goals as goal

-- how far the longest segment from there leads
last_of : (lasts : List ℕ) (from last : ℕ) → from < length lasts → last ≡ get_or lasts from last → last ≡ slice_index lasts from
last_of lasts from last there is = is ∙ get_or_default lasts from last 0 there

pub invariant_of-window : goal.invariant_of-window
invariant_of-window c =
    let s = c.args.segments.now in
    let last = last_of s.lasts.items c.args.from c.index-last.result.now (omega (arith, s.places)) c.index-last.ensures in
    record {
      one_walk = c.at-start.ensures.moments;
      onwards = omega (arith, c.at-start.ensures.from, c.requires.begin.above);
      ordered = omega (arith, last, c.requires.begin.within);
      reached = subst (λ from. c.index-last.result.now ≤ slice_index s.lasts.items from) (sym c.at-start.ensures.from) (omega (arith, last));
      places = c.requires.known.places;
      small = λ k above within. (
          let low : c.args.from + 1 ≤ k = omega (arith, c.at-start.ensures.from) in
          omega (arith, s.few, c.requires.known.few k low within, c.requires.known.small k low within)
          );
    }

pub cheapest_of-best-requires : goal.cheapest_of-best-requires
cheapest_of-best-requires c =
    let s = c.args.segments.now in
    let last = last_of s.lasts.items c.args.from c.index-last.result.now (omega (arith, s.places)) c.index-last.ensures in
    tried_none (penalty_of s.moments) c.args.labels.now c.at-start.result.from c.args.begin c.index-last.result.now c.min-to.result c.by_segment-tried.result
    (omega (arith, c.max.ensures, c.min-to.ensures, last, c.requires.begin.within)) (omega (arith, c.min-to.ensures))
    c.by_segment-tried.ensures

-- all points of the window have as many segments left
pub returns-clause-label : goal.returns-clause-label
returns-clause-label c =
    let s = c.args.segments.now in
    let labels = c.args.labels.now in
    let best = c.cheapest_of-best.result in
    let last = last_of s.lasts.items c.args.from c.index-last.result.now (omega (arith, s.places)) c.index-last.ensures in
    let is = rw c.at-start.ensures.from at c.cheapest_of-best.ensures in
    let level = in_window (length s.moments) s.lasts.items s.onwards s.rising (penalty_of s.moments) labels c.args.from c.requires.from c.requires.known
    c.args.begin c.requires.begin best.next is.above (omega (arith, is.near, last)) in
    let count = ap (λ n. (label_at labels n).count) last in
    right_in_window (length s.moments) s.lasts.items s.onwards s.rising (penalty_of s.moments) labels c.args.from c.requires.from c.requires.known
    c.args.begin c.requires.begin _ best.next is.above (omega (arith, is.near, last))
    (label_same _ (label_by (penalty_of s.moments) labels c.args.from best.next) (omega (arith, level, count)) (c.from.ensures ∙ is.by_step))
    (λ k above near. omega (arith, c.from.ensures, is.cheapest k above (omega (arith, last))))
