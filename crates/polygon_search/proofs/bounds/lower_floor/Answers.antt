use Rattle.std.proofs.Common.{refl, arith}
use Rattle.polygon_search.specs.Inner.OnePenalty.{penalty_is, penalty_is_one}
use Rattle.polygon_search.specs.Inner.Joining.{IsLowered}
use Rattle.polygon_search.specs.Polygon.{penalty_of}
use Rattle.polygon_search.proofs.Joining.{changed_one, changed_same}
use Rattle.polygon_search.proofs.bounds.lower_floor.Goals as goal

-- a penalty is below 2^24
pub returns-then-reaches : goal.returns-then-reaches
returns-then-reaches c =
    let s = c.args.segment.now in
    let points = s.moments.now in
    let least = c.reaches.ensures.reached c.if-reaches.true (penalty_of points s.from s.to) (penalty_is points s.from s.to) in
    changed_same (λ k. IsLowered c.args.paid (penalty_of points s.from k)) s.to c.args.bounds.now (record {
      lower = omega arith;
      floor = omega (arith, least, c.min.ensures, c.requires.cheap);
      ahead = refl;
      behind = refl;
    })

pub returns : goal.returns
returns c =
    let s = c.args.segment.now in
    let points = s.moments.now in
    let is = penalty_is_one points s.from s.to c.penalty_by.result c.penalty_by.ensures in
    changed_one (λ k. IsLowered c.args.paid (penalty_of points s.from k)) s.to c.args.bounds.now _ c.requires.place (record {
      lower = omega (arith, c.min-2.ensures);
      floor = omega (arith, c.min-2.ensures, is);
      ahead = refl;
      behind = refl;
    })
