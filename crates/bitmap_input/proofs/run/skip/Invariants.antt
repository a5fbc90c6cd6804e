use Rattle.std.proofs.Common.{◌-◌, ◌≤◌, Ok}
use Rattle.bitmap_input.specs.Inner.Reading.{Leaves}
use Rattle.bitmap_input.specs.Inner.ByteRuns.{run_size}
use Rattle.bitmap_input.proofs.ByteRuns.{RunSoFar}
use Rattle.bitmap_input.proofs.run.skip.Given as goal

abbrev pub invariant-loop-n : goal.invariant-loop-n
invariant-loop-n g l =
    let source = g.I.Inputs in
    record {
      so_far : RunSoFar (run_size l.fn.run) (run_size l.run) l.fn.buffer (source.files l.fn.inputs) l.n l.buffer (source.files l.inputs);
      most : l.n ≤ 1048577;
      leaves : Leaves source (Ok (tt {0})) l.fn.inputs l.inputs;
    }

abbrev pub decreases-loop-n : goal.decreases-loop-n
decreases-loop-n g l = 1048577 - l.n
