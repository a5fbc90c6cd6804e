use Rattle.std.proofs.Common.{ap, ◌∙◌}
use Rattle.polygon_search.specs.Polygon.{total_penalty}
use Rattle.polygon_search.proofs.Reaching.{best_from_least}
use Rattle.polygon_optimal.proofs.optimal.polygon_of.Goals as goal

pub returns-clause-best : goal.returns-clause-best
returns-clause-best c =
    best_from_least c.args.moments.now c.of-segments.result.moments.now c.of-segments.result.lasts.items c.in_ok-walk.walk.at
    c.of-segments.ensures.points c.of-segments.ensures.lasts c.in_ok-walk.ensures.least

pub returns-clause-cost : goal.returns-clause-cost
returns-clause-cost c =
    c.in_ok-walk.ensures.cost ∙ ap (λ points. total_penalty points c.in_ok-walk.walk.at) c.of-segments.ensures.points
