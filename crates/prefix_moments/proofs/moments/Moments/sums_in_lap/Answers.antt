use Rattle.std.proofs.Common.{ap, ◌∙◌}
use Rattle.prefix_moments.proofs.Fitting.{coordinate_is}
use Rattle.prefix_moments.proofs.Rows.{sums_by}
use Rattle.prefix_moments.proofs.moments.Moments.sums_in_lap.Goals as goal

pub returns : goal.returns
returns c =
    let p = c.requires.on_page in
    sums_by c.args.self.now c.args.i c.args.j c.segment_in_lap-raw.result _ _ c.offsets.result c.segment_in_lap-raw.ensures.value
    (coordinate_is c.args.first.x c.from.result p.left p.right c.from.ensures ∙ ap (λ v. v.x) c.requires.first)
    (coordinate_is c.args.first.y c.from-2.result p.bottom p.top c.from-2.ensures ∙ ap (λ v. v.y) c.requires.first)
    c.offsets.ensures
