use Rattle.std.proofs.Common.{ap}
use Rattle.curve_join.proofs.Horner.{place_there, small_there, sum_most_back}
use Rattle.curve_join.proofs.Meetings.{point_there}
use Rattle.curve_join.specs.Cubic.{place_at}
use Rattle.curve_join.proofs.stand_in.StandIn.place.Goals as goal

pub sum-requires-clause-small : goal.sum-requires-clause-small
sum-requires-clause-small c =
    let s = c.args.self.now in
    small_there c.args.u c.requires s.cubic.start.x s.cubic.first.x s.cubic.second.x s.cubic.end.x s.first.x s.second.x s.third.x (ap (λ v. v.x) s.first_is) (ap (λ v. v.x) s.second_is) (ap (λ v. v.x) s.third_is) s.x s.x_is s.near.start.x s.near.first.x s.near.second.x s.near.end.x

pub floor-requires : goal.floor-requires
floor-requires c =
    let s = c.args.self.now in
    sum_most_back c.args.u c.requires s.cubic.start.x s.cubic.first.x s.cubic.second.x s.cubic.end.x s.first.x s.second.x s.third.x (ap (λ v. v.x) s.first_is) (ap (λ v. v.x) s.second_is) (ap (λ v. v.x) s.third_is) s.x s.x_is s.near.start.x s.near.first.x s.near.second.x s.near.end.x c.sum.result c.sum.ensures

pub sum-requires-2-clause-small : goal.sum-requires-2-clause-small
sum-requires-2-clause-small c =
    let s = c.args.self.now in
    small_there c.args.u c.requires s.cubic.start.y s.cubic.first.y s.cubic.second.y s.cubic.end.y s.first.y s.second.y s.third.y (ap (λ v. v.y) s.first_is) (ap (λ v. v.y) s.second_is) (ap (λ v. v.y) s.third_is) s.y s.y_is s.near.start.y s.near.first.y s.near.second.y s.near.end.y

pub floor-requires-2 : goal.floor-requires-2
floor-requires-2 c =
    let s = c.args.self.now in
    sum_most_back c.args.u c.requires s.cubic.start.y s.cubic.first.y s.cubic.second.y s.cubic.end.y s.first.y s.second.y s.third.y (ap (λ v. v.y) s.first_is) (ap (λ v. v.y) s.second_is) (ap (λ v. v.y) s.third_is) s.y s.y_is s.near.start.y s.near.first.y s.near.second.y s.near.end.y c.sum-2.result c.sum-2.ensures

pub returns-clause-value : goal.returns-clause-value
returns-clause-value c =
    let s = c.args.self.now in
    point_there _ _ (place_at s.cubic c.args.u)
    (place_there c.args.u c.requires s.cubic.start.x s.cubic.first.x s.cubic.second.x s.cubic.end.x s.first.x s.second.x s.third.x (ap (λ v. v.x) s.first_is) (ap (λ v. v.x) s.second_is) (ap (λ v. v.x) s.third_is) s.x s.x_is s.near.start.x s.near.first.x s.near.second.x s.near.end.x c.sum.result c.sum.ensures c.floor.result c.floor.ensures.near c.floor.ensures.value)
    (place_there c.args.u c.requires s.cubic.start.y s.cubic.first.y s.cubic.second.y s.cubic.end.y s.first.y s.second.y s.third.y (ap (λ v. v.y) s.first_is) (ap (λ v. v.y) s.second_is) (ap (λ v. v.y) s.third_is) s.y s.y_is s.near.start.y s.near.first.y s.near.second.y s.near.end.y c.sum-2.result c.sum-2.ensures c.floor-2.result c.floor-2.ensures.near c.floor-2.ensures.value)
