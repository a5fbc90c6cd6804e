use Rattle.std.proofs.Common.{◌≡◌, drop}
use Rattle.mem_outside.proofs.FirstFiles.{found}
use Rattle.mem_outside.proofs.mem_inputs.place_of.Given as goal

-- no file before the current one has the name
abbrev pub invariant-loop-i : goal.invariant-loop-i
invariant-loop-i l = found l.name (drop l.i l.files) ≡ found l.name l.files
