use Rattle.std.proofs.Common.{◌<◌, length, refl, arith}
use Rattle.std.specs.Prelude.{slice_index_or}
use Rattle.pt_core.specs.ClosedWalk.{point_at, origin}
use Rattle.prefix_moments.proofs.Prefixes.{next_prefix}
use Rattle.prefix_moments.proofs.Rows.{listed, listed_on_page}
use Rattle.prefix_moments.proofs.moments.sums_to.Goals as goal

pub with-sums-requires : goal.with-sums-requires
with-sums-requires c =
    let within : c.loop-k.k < length c.args.points.now = omega (arith, c.loop-k-test.true, c.requires.lap) in
    listed_on_page c.args.points.now c.args.points.now c.loop-k.k refl within c.requires.on_page

pub loop-k-preserved : goal.loop-k-preserved
loop-k-preserved c =
    let within : c.loop-k.k < length c.args.points.now = omega (arith, c.loop-k-test.true, c.requires.lap) in
    let sums = c.with-sums.ensures in
    record {
      now = next_prefix (point_at c.args.points.now) c.loop-k.k c.loop-k.sums c.with-sums.result (slice_index_or c.args.points.now c.loop-k.k origin)
          c.requires.on_page c.loop-k.invariant.now (listed c.args.points.now c.args.points.now c.loop-k.k refl within) sums.x sums.y sums.xx sums.xy sums.yy;
    }
