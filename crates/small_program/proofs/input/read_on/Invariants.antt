use Rattle.std.proofs.Common.{◌≡◌, ◌+◌, ◌<◌, ◌≤◌, true, [], Option, length, ◌-◌}
use Rattle.pt_core.specs.Files.{Files}
use Rattle.small_program.specs.Input.{HasTaken}
use Rattle.small_program.specs.declared.input.TheConstants.{MOST_BYTES}
use Rattle.small_program.proofs.input.read_on.Given as goal

-- all bytes read before are in the list
abbrev pub invariant-pieces : goal.invariant-pieces
invariant-pieces g l =
    let inputs = g.I.Inputs in
    record {
      opened : inputs.is_opened l.inputs ≡ true;
      some : 0 < length l.buffer.items;
      few : length l.bytes.items ≤ MOST_BYTES + 1;
      steady : inputs.faults l.inputs ≡ inputs.faults l.fn.inputs;
      openings : inputs.openings l.inputs ≡ inputs.openings l.fn.inputs;
      taken : (start : Option Files) → HasTaken start (inputs.files l.fn.inputs) [] → HasTaken start (inputs.files l.inputs) l.bytes.items;
    }

abbrev pub decreases-pieces : goal.decreases-pieces
decreases-pieces g l = MOST_BYTES + 1 - length l.bytes.items
