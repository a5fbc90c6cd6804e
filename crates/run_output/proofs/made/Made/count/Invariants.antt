use Rattle.std.proofs.Common.{◌≡◌, take}
use Rattle.std.specs.List.{sum_by}
use Rattle.run_output.specs.Inner.Made.{documents_of}
use Rattle.run_output.proofs.made.Made.count.Given as goal

-- the documents of the files before the current one are counted
abbrev pub invariant-loop-file : goal.invariant-loop-file
invariant-loop-file l = l.count ≡ sum_by (documents_of l.base) (take l.file-index l.file-items)
