use Rattle.std.proofs.Common.{◌-◌, ◌≤◌, length, Ok}
use Rattle.bitmap_input.specs.Inner.Reading.{Leaves}
use Rattle.bitmap_input.proofs.Blocks.{IsBlockSoFar}
use Rattle.bitmap_input.proofs.raw.read_block.Given as goal

abbrev pub invariant-loop-done : goal.invariant-loop-done
invariant-loop-done g l =
    let source = g.I.Inputs in
    record {
      so_far : IsBlockSoFar (length l.fn.row) l.fn.buffer (source.files l.fn.inputs) l.done l.row l.buffer (source.files l.inputs);
      within : l.done ≤ length l.row;
      leaves : Leaves source (Ok (tt {0})) l.fn.inputs l.inputs;
    }

abbrev pub decreases-loop-done : goal.decreases-loop-done
decreases-loop-done g l = length l.row - l.done
