use Rattle.std.proofs.Common.{◌-◌, ◌≡◌, ◌++◌, length, map, take, Ok}
use Rattle.bitmap_input.specs.Inner.Reading.{Leaves}
use Rattle.bitmap_input.specs.Samples.{plain_sample}
use Rattle.bitmap_input.specs.GrayRows.{lowered}
use Rattle.bitmap_input.proofs.GatheredParts.{IsGatheredSoFar}
use Rattle.bitmap_input.proofs.gray_rows.read_plain_gray_row.Given as goal

abbrev pub invariant-loop-x : goal.invariant-loop-x
invariant-loop-x g l =
    let source = g.I.Inputs in
    record {
      so_far : IsGatheredSoFar plain_sample l.fn.buffer (source.files l.fn.inputs) (λ values. map lowered values) (length l.fn.row)
          l.buffer (source.files l.inputs) (λ values. take l.x l.row ++ map lowered values) (length l.fn.row - l.x);
      room : length l.row ≡ length l.fn.row;
      leaves : Leaves source (Ok (tt {0})) l.fn.inputs l.inputs;
    }
