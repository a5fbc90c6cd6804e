use Rattle.std.proofs.Common.{rules, ◌≡◌, ◌+◌, ◌-◌, ◌*◌, ◌≤◌, length, get_or, arith, sym, ◌∙◌, ap}
use Rattle.std.proofs.lemmas.List.{get_or_past}
use Rattle.mkbitmap.specs.Box.{sum_between, box_from, box_end, box_count}
use Rattle.mkbitmap.specs.Relief.{raised_by}
use Rattle.mkbitmap.proofs.BoxSums.{sum-most, sum-past}
use Rattle.mkbitmap.proofs.FilledLists.{filled_next}
use Rattle.mkbitmap.proofs.relief.raise_row.Goals as goal

pub raised-requires-clause-sum : goal.raised-requires-clause-sum
raised-requires-clause-sum c =
    let boxed : sum_between (λ a. get_or c.args.columns.now a 0) (c.loop-x.x - c.args.radius) (c.loop-x.x + c.args.radius + 1)
    ≡ sum_between (λ a. get_or c.args.columns.now a 0) (box_from c.args.radius c.loop-x.x) (box_end c.args.radius (length c.args.columns.now) c.loop-x.x)
    = sum-past (λ a. get_or c.args.columns.now a 0) (length c.args.columns.now) (c.loop-x.x - c.args.radius) (c.loop-x.x + c.args.radius + 1) (omega arith)
    (λ k past. get_or_past c.args.columns.now k 0 past) in
    let most : sum_between (λ a. get_or c.args.columns.now a 0) (box_from c.args.radius c.loop-x.x) (box_end c.args.radius (length c.args.columns.now) c.loop-x.x)
    ≤ box_count c.args.radius (length c.args.columns.now) c.loop-x.x * (c.args.rows * c.args.maxval)
    = sum-most (λ a. get_or c.args.columns.now a 0) (c.args.rows * c.args.maxval) _ _ c.requires.columns in
    let across : c.min.result - c.saturating_sub.result ≡ box_count c.args.radius (length c.args.columns.now) c.loop-x.x
    = omega (arith, c.min.ensures, c.saturating_sub.ensures) in
    rw across (omega (arith, c.slid-sum.ensures, boxed, most))

pub loop-x-preserved : goal.loop-x-preserved
loop-x-preserved c =
    let boxed : sum_between (λ a. get_or c.args.columns.now a 0) (c.loop-x.x - c.args.radius) (c.loop-x.x + c.args.radius + 1)
    ≡ sum_between (λ a. get_or c.args.columns.now a 0) (box_from c.args.radius c.loop-x.x) (box_end c.args.radius (length c.args.columns.now) c.loop-x.x)
    = sum-past (λ a. get_or c.args.columns.now a 0) (length c.args.columns.now) (c.loop-x.x - c.args.radius) (c.loop-x.x + c.args.radius + 1) (omega arith)
    (λ k past. get_or_past c.args.columns.now k 0 past) in
    let across : c.min.result - c.saturating_sub.result ≡ box_count c.args.radius (length c.args.columns.now) c.loop-x.x
    = omega (arith, c.min.ensures, c.saturating_sub.ensures) in
    let from : c.loop-x.x + 1 - (c.args.radius + 1) ≡ c.loop-x.x - c.args.radius = omega arith in
    let to : c.loop-x.x + 1 + c.args.radius ≡ c.loop-x.x + c.args.radius + 1 = omega arith in
    record {
      width = search rules;
      sum = c.slid-sum.ensures ∙ ap (λ k. sum_between (λ a. get_or c.args.columns.now a 0) k (c.loop-x.x + c.args.radius + 1)) (sym from)
          ∙ ap (λ k. sum_between (λ a. get_or c.args.columns.now a 0) (c.loop-x.x + 1 - (c.args.radius + 1)) k) (sym to);
      room = search rules;
      value = filled_next c.loop-x.relief c.loop-x.x c.raised.result
          (λ x. raised_by (get_or c.args.samples.now x 0) (sum_between (λ a. get_or c.args.columns.now a 0) (box_from c.args.radius x) (box_end c.args.radius (length c.args.columns.now) x))
          (box_count c.args.radius (length c.args.columns.now) x * c.args.rows) c.args.maxval)
          (omega arith) c.loop-x.invariant.value
          (c.raised.ensures.value ∙ ap (λ s. raised_by (get_or c.args.samples.now c.loop-x.x 0) s ((c.min.result - c.saturating_sub.result) * c.args.rows) c.args.maxval) (c.slid-sum.ensures ∙ boxed)
          ∙ ap (λ k. raised_by (get_or c.args.samples.now c.loop-x.x 0) (sum_between (λ a. get_or c.args.columns.now a 0) (box_from c.args.radius c.loop-x.x) (box_end c.args.radius (length c.args.columns.now) c.loop-x.x)) (k * c.args.rows) c.args.maxval) across);
    }
