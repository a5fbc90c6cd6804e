-- How a run ends and what it reports, as the code has its reply or the reason why the input couldn't be read.
use Rattle.std.specs.Prelude.{ℕ, List, codes}
use Rattle.run_output.specs.declared.status.Status.{Status}
use Rattle.run_output.specs.declared.status.Status.TheVariants as status
use Rattle.run_output.specs.Messages.{file_line, program_line}
use Rattle.run_output.specs.Names.{dash}
use Rattle.small_program.specs.declared.input.InputStop.{InputStop}
use Rattle.small_program.specs.declared.input.InputStop.TheVariants as stops
use Rattle.small_program.specs.declared.task.Reply.{Reply}
use Rattle.small_program.specs.declared.task.Reply.TheVariants as replies

-- how a run with this reply ends, if its document is written
abbrev pub reply_ending : Reply → Status
reply_ending (replies.Right text) = status.Done
reply_ending (replies.Wrong text) = status.Wrong
reply_ending (replies.Refused message) = status.Refused

-- the text of a reply's document, or the reason for which the input is refused
abbrev pub reply_text : Reply → List ℕ
reply_text (replies.Right text) = text.items
reply_text (replies.Wrong text) = text.items
reply_text (replies.Refused message) = message.now

-- how a run ends if its input couldn't be read for this reason
abbrev pub stop_ending : InputStop → Status
stop_ending stops.Unread = status.Unread
stop_ending stops.TooLong = status.Refused
stop_ending stops.OutOfMemory = status.OutOfMemory

-- what a run reports if its input couldn't be read for this reason
abbrev pub stop_line : List ℕ → InputStop → List ℕ
stop_line program stops.Unread = file_line program dash (codes "read fault")
stop_line program stops.TooLong = file_line program dash (codes "text too long")
stop_line program stops.OutOfMemory = program_line program (codes "out of memory")
