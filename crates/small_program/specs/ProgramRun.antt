-- What a run of a program has done.
use Rattle.std.specs.Prelude.{◌≡◌, ℕ, ◌+◌, ◌^◌, ◌<◌, ◌⊎◌, List, length, codes, false}
use Rattle.pt_core.specs.Counts.{Rose, next_count}
use Rattle.pt_core.specs.Documents.{IsCutOff, with_whole}
use Rattle.pt_core.specs.Files.{Lacks}
use Rattle.run_output.specs.Messages.{file_line, program_line}
use Rattle.run_output.specs.Names.{dash}
use Rattle.run_output.specs.Told.{AllWent, BrokeOff, IsMessage, Sinks, Source}
use Rattle.small_program.specs.Input.{HasInput, HasTaken, TellsInput}
use Rattle.small_program.specs.Reply.{IsReply}
use Rattle.run_output.specs.declared.status.Status.{Status}
use Rattle.run_output.specs.declared.status.Status.TheVariants as status

-- standard input was opened once, no read failed, and these are its bytes
pub record TakesInput (bytes : List ℕ) (source source_now : Source) : Type 0 where
  pub opened : source_now.openings ≡ next_count source.openings
  pub steady : source_now.faults ≡ source.faults
  pub has : HasInput source.files bytes

-- if there are more than 2^30 bytes, exactly 2^30 + 1 bytes of them were read
abbrev pub StopsInTime : List ℕ → Source → Source → Type 0
StopsInTime bytes source source_now =
    2 ^ 30 < length bytes → (taken : List ℕ) × HasTaken source.files source_now.files taken × (length taken ≡ 2 ^ 30 + 1)

-- standard input was opened once; it is known to be missing, or opening or reading it failed
pub record FailsInput (source source_now : Source) : Type 0 where
  pub opened : source_now.openings ≡ next_count source.openings
  pub cause : (Lacks source.files dash × (source_now.faults ≡ source.faults)) ⊎ Rose source.faults source_now.faults

-- no call of the inputs failed, and at most one file was opened
pub record LeavesInput (source source_now : Source) : Type 0 where
  pub opened : (source_now.openings ≡ source.openings) ⊎ (source_now.openings ≡ next_count source.openings)
  pub steady : source_now.faults ≡ source.faults

-- nothing was written to the outputs, and this message was reported
pub record OnlySays (message : List ℕ) (old new : Sinks) : Type 0 where
  pub same : new.outs ≡ old.outs
  pub same_open : new.is_open ≡ old.is_open
  pub says : IsMessage message old.errs new.errs

-- the document `-` of this text was written whole, no call of the outputs failed, and nothing was reported
pub record Writes (text : List ℕ) (old new : Sinks) : Type 0 where
  pub documents : new.outs.documents ≡ with_whole old.outs.documents dash text
  pub closed : new.is_open ≡ false
  pub went : AllWent old.outs new.outs
  pub silent : new.errs ≡ old.errs

-- the document `-` of this text was cut off by a call of the outputs that failed; it was the only one that failed and
-- the last one, and a write fault was reported
pub record CutsOff (program text : List ℕ) (old new : Sinks) : Type 0 where
  pub cut_off : IsCutOff old.outs.documents new.outs.documents dash text
  pub broke : BrokeOff old.outs new.outs
  pub says : IsMessage (file_line program dash (codes "write fault")) old.errs new.errs

-- a text was written, and the run ends with the status `well`; or its document was cut off, and the run ends as
-- unwritten
abbrev pub PutsText : List ℕ → Status → List ℕ → Status → Sinks → Sinks → Type 0
PutsText program well text end old new =
    ((end ≡ well) × Writes text old new) ⊎ ((end ≡ status.Unwritten) × CutsOff program text old new)

-- what a run has done if it ends with this status, for a task that makes these replies: a reply is always one to the
-- whole input
abbrev pub HasDone : (List ℕ → Status → List ℕ → Type 0) → List ℕ → Status → Source → Source → Sinks → Sinks → Type 0
HasDone makes program status.Done source source_now old new =
    (bytes : List ℕ) × (text : List ℕ) × TakesInput bytes source source_now
    × IsReply makes bytes status.Done text × Writes text old new
HasDone makes program status.Wrong source source_now old new =
    (bytes : List ℕ) × (text : List ℕ) × TakesInput bytes source source_now
    × IsReply makes bytes status.Wrong text × Writes text old new
HasDone makes program status.BadWords source source_now old new =
    (source_now ≡ source) × OnlySays (program_line program (codes "bad arguments")) old new
HasDone makes program status.Refused source source_now old new =
    (bytes : List ℕ) × (why : List ℕ) × TakesInput bytes source source_now × StopsInTime bytes source source_now
    × IsReply makes bytes status.Refused why × OnlySays (file_line program dash why) old new
HasDone makes program status.Unread source source_now old new =
    FailsInput source source_now × OnlySays (file_line program dash (codes "read fault")) old new
HasDone makes program status.Unwritten source source_now old new =
    (bytes : List ℕ) × (well : Status) × (text : List ℕ) × TakesInput bytes source source_now
    × IsReply makes bytes well text × ((well ≡ status.Done) ⊎ (well ≡ status.Wrong)) × CutsOff program text old new
HasDone makes program status.OutOfMemory source source_now old new =
    LeavesInput source source_now × OnlySays (program_line program (codes "out of memory")) old new

-- all that a run does: the program has this name, was given this number of command-line arguments, and ends with this
-- status
pub record IsProgramRun (makes : List ℕ → Status → List ℕ → Type 0) (program : List ℕ) (words : ℕ) (end : Status) (source source_now : Source) (old new : Sinks) : Type 0 where
  pub outcome : HasDone makes program end source source_now old new
  -- the run ends with this status if there are arguments, and only then
  pub bad_words : end ≡ status.BadWords → 0 < words
  pub refused : 0 < words → end ≡ status.BadWords
  -- if standard input is known to be missing, the run ends as unread; if it is known to be there and no device failed,
  -- the run ends with its reply or runs out of memory
  pub missing : words ≡ 0 → Lacks source.files dash → end ≡ status.Unread
  pub complete : words ≡ 0 → (bytes text : List ℕ) (well : Status) → TellsInput source.files bytes → IsReply makes bytes well text
      → (Rose source.faults source_now.faults → ⊥) → (Rose old.outs.faults new.outs.faults → ⊥) → (end ≡ well) ⊎ (end ≡ status.OutOfMemory)
  -- a fault of the outputs shows in the status
  pub unwritten : old.outs.faults < new.outs.faults → end ≡ status.Unwritten
