-- How a run ends that has a reply to write.
use Rattle.std.specs.Prelude.{◌≡◌, ℕ, ◌⊎◌, List}
use Rattle.run_output.specs.Messages.{file_line}
use Rattle.run_output.specs.Names.{dash}
use Rattle.run_output.specs.Told.{Sinks}
use Rattle.run_output.specs.declared.status.Status.{Status}
use Rattle.run_output.specs.declared.status.Status.TheVariants as status
use Rattle.small_program.specs.ProgramRun.{OnlySays, PutsText}

-- the reply of this ending and this text was handled: its document was written or cut off, or the input was refused
-- with a message
abbrev pub PutsReply : List ℕ → Status → List ℕ → Status → Sinks → Sinks → Type 0
PutsReply program well text end old new =
    (((well ≡ status.Done) ⊎ (well ≡ status.Wrong)) × PutsText program well text end old new)
    ⊎ ((well ≡ status.Refused) × (end ≡ status.Refused) × OnlySays (file_line program dash text) old new)
