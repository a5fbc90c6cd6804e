-- The number of each exit status.
use Rattle.std.specs.Prelude.{ℕ}
use Rattle.run_output.specs.declared.status.Status.{Status}
use Rattle.run_output.specs.declared.status.Status.TheVariants as status

-- the number of an exit status
abbrev pub code_of : Status → ℕ
code_of status.Done = 0
code_of status.BadWords = 1
code_of status.Refused = 2
code_of status.Unread = 3
code_of status.Unwritten = 4
code_of status.OutOfMemory = 5
code_of status.Wrong = 6
