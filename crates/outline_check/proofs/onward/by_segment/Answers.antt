use Rattle.std.proofs.Common.{◌≡◌, List, subst}
use Rattle.pt_core.specs.declared.point.Point.{Point}
use Rattle.prefix_moments.specs.Sums.{IsPenalty}
use Rattle.polygon_search.specs.Inner.OnePenalty.{penalty_is_one}
use Rattle.polygon_search.specs.Polygon.{penalty_of}
use Rattle.outline_check.proofs.onward.by_segment.Goals as goal

pub returns : goal.returns
returns c =
    let points = c.args.window.now.segments.now.moments in
    let from = c.args.window.now.start.from in
    let P : List Point → Type 0 = λ points. IsPenalty points from c.args.to c.penalty.result in
    let is : c.penalty.result ≡ penalty_of points from c.args.to =
    penalty_is_one points from c.args.to c.penalty.result (subst P c.args.window.now.one_walk c.penalty.ensures) in
    let rest = c.rest.ensures.value in
    cc
