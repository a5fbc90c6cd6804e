use Rattle.std.proofs.Common.{◌+◌, to_z, arith}
use mir.Syntax.{w128}
use Rattle.pt_core.specs.ClosedWalk.{origin}
use Rattle.curve_join.proofs.Areas.{area_fits, area_so_far, at_origin}
use Rattle.curve_join.proofs.Cuts.{one_more}
use Rattle.curve_join.specs.Inner.Areas.{area_up_to}
use Rattle.curve_join.specs.Join.{no_bend}
use Rattle.curve_join.proofs.runs.areas.Goals as goal

pub overflow_add-total : goal.overflow_add-total
overflow_add-total c =
    area_fits origin at_origin c.args.bends.now c.requires.small c.requires.most c.loop-bend.bend-index no_bend c.loop-bend-test.true
    (to_z w128 c.loop-bend.total-bits) c.area_share-total.result c.loop-bend.invariant.total c.area_share-total.ensures

pub loop-bend-preserved : goal.loop-bend-preserved
loop-bend-preserved c =
    let total =
    area_so_far origin at_origin c.args.bends.now c.requires.small c.requires.most c.loop-bend.bend-index no_bend c.loop-bend-test.true
    (to_z w128 c.loop-bend.total-bits) c.area_share-total.result c.loop-bend.invariant.total c.area_share-total.ensures in
    record {
      areas = one_more (area_up_to c.args.bends.now) (c.loop-bend.bend-index + 1) c.loop-bend.areas.items c.push-in-loop-bend.new.self.items _
          c.loop-bend.invariant.areas total c.in_ok-push-2.ensures.items;
      total = total;
    }

pub offset_bounds-bends-bend-index : goal.offset_bounds-bends-bend-index
offset_bounds-bends-bend-index c = record { fits = omega (arith, c.loop-bend-test.true, c.requires.most) }

pub bounds-bends-bend-index : goal.bounds-bends-bend-index
bounds-bends-bend-index c = c.loop-bend-test.true

pub area_share-total-requires-clause-start : goal.area_share-total-requires-clause-start
area_share-total-requires-clause-start c = at_origin

pub area_share-total-requires-clause-small : goal.area_share-total-requires-clause-small
area_share-total-requires-clause-small c = c.requires.small _ _ c.loop-bend-test.true
