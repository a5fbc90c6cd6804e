use Rattle.std.proofs.Common.{◌≡◌, ◌<◌, ◌≤◌, ap, ◌∙◌, inl, inr, arith}
use Rattle.std.proofs.lemmas.Bool.{cases_lt}
use Rattle.polygon_search.specs.Polygon.{penalty_of}
use Rattle.outline_check.specs.declared.onward.Onward.{Onward}
use Rattle.outline_check.specs.Labels.{label_by}
use Rattle.outline_check.proofs.Trying.{tried_more}
use Rattle.outline_check.proofs.onward.cheapest_of_few.Goals as goal
use Rattle.outline_check.proofs.onward.cheapest_of_few.Goals.{then-k-tried, else-k-tried}

-- the cheaper of two costs no more than the one
no_dearer : (by_k so_far best : Onward) → (by_k.cost < so_far.cost → best ≡ by_k) → (so_far.cost ≤ by_k.cost → best ≡ so_far) → best.cost ≤ so_far.cost
no_dearer by_k so_far best taken kept = elim (cases_lt by_k.cost so_far.cost) [
  | inl lower ↦ omega (arith, ap (λ (b : Onward). b.cost) (taken lower))
  | inr dear ↦ omega (arith, ap (λ (b : Onward). b.cost) (kept dear))
]

-- the one that was tried first isn't cheaper than what it has become
pub loop-k-preserved : goal.loop-k-preserved
loop-k-preserved c =
    let window = c.args.window.now in
    let cost = penalty_of window.segments.now.moments in
    let so_far = c.loop-k.invariant in
    let best = c.loop-k.best in
    elim c.if-k-tried.branch [
      | then-k-tried w ↦ record {
        least = omega (arith, so_far.least, ap (λ (b : Onward). b.cost) w.best-is, no_dearer _ best w.cheaper-best.result w.cheaper-best.ensures.cheaper w.cheaper-best.ensures.same);
        tried = tried_more cost window.labels.now window.start.from window.begin window.last c.loop-k.k best c.if-k-tried.best (omega arith) (omega arith)
            (λ lower. w.best-is ∙ w.cheaper-best.ensures.cheaper lower) (λ dear. w.best-is ∙ w.cheaper-best.ensures.same dear) so_far.tried;
      }
      | else-k-tried w ↦ record {
        least = omega (arith, so_far.least, ap (λ (b : Onward). b.cost) w.best-is);
        tried = tried_more cost window.labels.now window.start.from window.begin window.last c.loop-k.k best c.if-k-tried.best (omega arith) (omega arith)
            (λ lower. absurd (omega (arith, lower, so_far.least, c.requires.by_step, ap (λ n. (label_by cost window.labels.now window.start.from n).cost) w.if-k-tried.false))) (λ dear. w.best-is) so_far.tried;
      }
    ]

pub returns : goal.returns
returns c =
    let is = c.loop-k.invariant.tried in
    record {
      above = is.above;
      near = is.near;
      by_step = is.by_step;
      cheapest = λ j above below. is.cheapest j above (omega arith);
    }
