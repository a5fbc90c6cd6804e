use Rattle.std.proofs.Common.{Ok}
use Rattle.bitmap_input.specs.Inner.Reading.{Leaves}
use Rattle.bitmap_input.proofs.SkippedBytes.{IsPassedSoFar}
use Rattle.bitmap_input.proofs.skip.pass_over.Given as goal

abbrev pub invariant-loop-left : goal.invariant-loop-left
invariant-loop-left g l =
    let source = g.I.Inputs in
    record {
      so_far : IsPassedSoFar l.fn.buffer (source.files l.fn.inputs) l.n l.left l.buffer (source.files l.inputs);
      leaves : Leaves source (Ok (tt {0})) l.fn.inputs l.inputs;
    }

abbrev pub decreases-loop-left : goal.decreases-loop-left
decreases-loop-left g l = l.left
