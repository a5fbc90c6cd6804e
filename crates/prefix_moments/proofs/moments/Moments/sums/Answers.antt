use Rattle.std.proofs.Common.{ap, ◌∙◌}
use Rattle.prefix_moments.proofs.Fitting.{coordinate_is}
use Rattle.prefix_moments.proofs.Rows.{sums_by}
use Rattle.prefix_moments.proofs.moments.Moments.sums.Goals as goal

pub returns : goal.returns
returns c =
    let p = c.place-first.ensures.on_page in
    sums_by c.args.self.now c.args.i c.args.j c.segment-raw.result _ _ c.offsets.result c.segment-raw.ensures.value
    (coordinate_is c.place-first.result.x c.from.result p.left p.right c.from.ensures ∙ ap (λ v. v.x) c.place-first.ensures.value)
    (coordinate_is c.place-first.result.y c.from-2.result p.bottom p.top c.from-2.ensures ∙ ap (λ v. v.y) c.place-first.ensures.value)
    c.offsets.ensures
