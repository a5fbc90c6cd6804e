use Rattle.std.proofs.Common.{◌^◌}
use Rattle.curve_join.proofs.Horner.{powers_back}
use Rattle.curve_join.proofs.Meetings.{wide_way, wide_way_back}
use Rattle.curve_join.proofs.WeightedSums.{short_size}
use Rattle.curve_join.specs.Vector.{GoesNoFarther}
use Rattle.curve_join.proofs.stand_in.StandIn.of.Goals as goal

module _ (c : goal.After-of-2) where
  abbrev first_near : GoesNoFarther (2 ^ 30) c.way-first.result
  first_near = wide_way c.args.cubic.start c.args.cubic.first c.way-first.result c.requires.start c.requires.first c.way-first.ensures

  abbrev second_near : GoesNoFarther (2 ^ 30) c.way-second.result
  second_near = wide_way c.args.cubic.first c.args.cubic.second c.way-second.result c.requires.first c.requires.second c.way-second.ensures

  abbrev third_near : GoesNoFarther (2 ^ 30) c.way-third.result
  third_near = wide_way c.args.cubic.second c.args.cubic.end c.way-third.result c.requires.second c.requires.end c.way-third.ensures

pub of-requires-clause-start : goal.of-requires-clause-start
of-requires-clause-start c = short_size c.args.cubic.start.x c.requires.start.x

pub of-requires-clause-first : goal.of-requires-clause-first
of-requires-clause-first c = (wide_way_back c.args.cubic.start c.args.cubic.first c.way-first.result c.requires.start c.requires.first c.way-first.ensures).x

pub of-requires-clause-second : goal.of-requires-clause-second
of-requires-clause-second c = (wide_way_back c.args.cubic.first c.args.cubic.second c.way-second.result c.requires.first c.requires.second c.way-second.ensures).x

pub of-requires-clause-third : goal.of-requires-clause-third
of-requires-clause-third c = (wide_way_back c.args.cubic.second c.args.cubic.end c.way-third.result c.requires.second c.requires.end c.way-third.ensures).x

pub of-requires-2-clause-start : goal.of-requires-2-clause-start
of-requires-2-clause-start c = short_size c.args.cubic.start.y c.requires.start.y

pub of-requires-2-clause-first : goal.of-requires-2-clause-first
of-requires-2-clause-first c = (wide_way_back c.args.cubic.start c.args.cubic.first c.way-first.result c.requires.start c.requires.first c.way-first.ensures).y

pub of-requires-2-clause-second : goal.of-requires-2-clause-second
of-requires-2-clause-second c = (wide_way_back c.args.cubic.first c.args.cubic.second c.way-second.result c.requires.first c.requires.second c.way-second.ensures).y

pub of-requires-2-clause-third : goal.of-requires-2-clause-third
of-requires-2-clause-third c = (wide_way_back c.args.cubic.second c.args.cubic.end c.way-third.result c.requires.second c.requires.end c.way-third.ensures).y

pub invariant_of-result : goal.invariant_of-result
invariant_of-result c = record {
  near = c.requires;
  first_is = c.way-first.ensures;
  second_is = c.way-second.ensures;
  third_is = c.way-third.ensures;
  x_is = powers_back _ _ _ _ c.of.result c.requires.start.x (first_near c).x (second_near c).x (third_near c).x c.of.ensures;
  y_is = powers_back _ _ _ _ c.of-2.result c.requires.start.y (first_near c).y (second_near c).y (third_near c).y c.of-2.ensures;
}
