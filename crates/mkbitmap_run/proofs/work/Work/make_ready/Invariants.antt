use Rattle.std.proofs.Common.{◌≡◌, ℕ, ◌+◌, ◌-◌, List}
use Rattle.mkbitmap.specs.Enlarged.{after_of}
use Rattle.run_output.specs.Told.{source_of}
use Rattle.mkbitmap_run.specs.Inner.FilterWork.{CanPut, GoesAlong}
use Rattle.mkbitmap_run.proofs.work.Work.make_ready.Given as goal

-- some further rows were read, and the row of the result can still be written
abbrev pub invariant-rows : goal.invariant-rows
invariant-rows g l =
    let inputs = g.I.Inputs in
    let entry = l.fn in
    record {
      can : CanPut l.y l.self (source_of inputs l.inputs);
      steady : inputs.faults l.inputs ≡ inputs.faults entry.inputs;
      openings : inputs.openings l.inputs ≡ inputs.openings entry.inputs;
      next : List (List ℕ);
      along : GoesAlong entry.self (inputs.files entry.inputs) next l.self (inputs.files l.inputs);
    }

abbrev pub decreases-rows : goal.decreases-rows
decreases-rows g l = (after_of l.self.filter.times l.y + 1 - l.self.filter.pairs) + (l.self.filter.height - l.self.filter.taken)
