use Rattle.std.proofs.Common.{◌∷◌, [], ap, length, length-append, arith}
use Rattle.std.proofs.lemmas.List.Elements.{All-push}
use Rattle.corner_smooth.specs.Corner.{IsNearWidePage}
use Rattle.drawing_tests.proofs.tests.samples.points_at.Goals as goal

pub loop-x-preserved : goal.loop-x-preserved
loop-x-preserved c = record {
  near = rw c.in_ok-push.ensures.items (All-push IsNearWidePage c.loop-x.points.items c.near.result c.loop-x.invariant.near c.near.ensures);
  one_each = omega (arith, ap length c.in_ok-push.ensures.items, length-append c.loop-x.points.items (c.near.result ∷ []), c.loop-x.invariant.one_each);
}
