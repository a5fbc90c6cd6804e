use Rattle.std.proofs.Common.{◌<◌, length, below_more, arith}
use Rattle.std.proofs.lemmas.Bool.{and_parts}
use Rattle.path_copies.proofs.Comparing.{IsAsFar, both_true, copy_from_far, far_of_copy}
use Rattle.path_copies.proofs.compare.is_copy.Goals as goal

pub loop-k-preserved : goal.loop-k-preserved
loop-k-preserved c =
    let alike = c.lie_alike-are_alike.ensures in
    let now = c.lie_alike-are_alike.result in
    record {
      alike = λ all.
          let both = and_parts c.loop-k.are_alike now all in
          let far = alike.0 both.1 in
          below_more (IsAsFar c.args.points.now c.args.other.now) c.loop-k.k (c.loop-k.invariant.alike both.0) (record { right = far.0; above = far.1 });
      copied = λ copy.
          let far = far_of_copy c.args.points.now c.args.other.now copy c.loop-k.k c.loop-k-test.true in
          both_true c.loop-k.are_alike now (c.loop-k.invariant.copied copy) (alike.1 (far.right, far.above));
    }

-- all points were compared
pub returns : goal.returns
returns c =
    let some : 0 < length c.args.points.now = omega (arith, c.if-points-other.false, c.requires) in (
      λ all. copy_from_far c.args.points.now c.args.other.now c.if-points-other.false some (λ m below. c.loop-k.invariant.alike all m (omega (arith, c.loop-k-test.false, below))),
      c.loop-k.invariant.copied,
    )
