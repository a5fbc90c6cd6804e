use Rattle.std.proofs.Common.{◌∙◌, arith}
use Rattle.pt_core.proofs.Sizes.{back}
use Rattle.prefix_moments.proofs.Totals.{right_is, above_is}
use Rattle.half_penalties.proofs.halves.offset_between.Goals as goal

pub returns : goal.returns
returns c =
    let points = c.args.points.now in
    let from = c.place-from.ensures in
    let to = c.place-to.ensures in
    let right = c.between.ensures in
    let above = c.between-2.ensures in
    let right_back = back c.between.result (omega (arith, right.most)) in
    let above_back = back c.between-2.result (omega (arith, above.most)) in
    record {
      right = right_back ∙ right_is points c.args.i c.args.j c.place-from.result c.place-to.result c.between.result from.on_page to.on_page from.value to.value right.value;
      above = above_back ∙ above_is points c.args.i c.args.j c.place-from.result c.place-to.result c.between-2.result from.on_page to.on_page from.value to.value above.value;
      right_most = rw right_back right.most;
      above_most = rw above_back above.most;
    }
