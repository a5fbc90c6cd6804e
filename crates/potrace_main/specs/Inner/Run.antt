-- All that a run does, in one record for the calls below the top call.
use Rattle.std.specs.Prelude.{◌≡◌, ℕ, false, List}
use Rattle.pt_core.specs.declared.inputs.Inputs.{Ghosts as InputGhosts}
use Rattle.run_output.specs.declared.status.Status.{Status}
use Rattle.run_output.specs.declared.status.Status.TheVariants as status
use Rattle.potrace_words.specs.Asked.{IsAsked}
use Rattle.potrace_words.specs.declared.ask.Ask.{Ask}
use Rattle.run_output.specs.Told.{AllWent, BrokeOff, Sinks, Source, source_of}
use Rattle.file_documents.specs.Outcome.{OpensFirst, InputCount}
use Rattle.potrace_main.specs.Run.{IsOutcomeOf, names_of, RefusesWords, BindsApart, IsOnePassOf, LosesBatchOf}

-- how the outputs moved: where a document couldn't be written one call failed, the last one; else none failed, and no
-- document is open where this is so; and no run tells that its input is wrong
abbrev pub OutputsMove : Type 0 → Status → Sinks → Sinks → Type 0
OutputsMove Closes status.Unwritten old new = BrokeOff old.outs new.outs
OutputsMove Closes status.Wrong old new = ⊥
OutputsMove Closes s old new = AllWent old.outs new.outs × (Closes → new.is_open ≡ false)

-- all that a run does that is asked for this
pub record IsRun (ask : Ask) (s : Status) (source source_now : Source) (old new : Sinks) : Type 0 where
  pub outcome : IsOutcomeOf ask s source source_now old new
  pub opened : OpensFirst (names_of ask) source source_now
  pub input : InputCount s source.faults source_now.faults
  pub one_pass : s ≡ status.Unwritten → IsOnePassOf ask source source_now old new
  pub one_batch : s ≡ status.OutOfMemory → LosesBatchOf ask source source_now old new

-- all that a run does of these words: what they ask for; or they ask for nothing, and that is said. And each count of
-- faults moved as the status says
pub record IsRunBy {A : Type 0} (of_inputs : InputGhosts A) (words : List (List ℕ)) (s : Status) (inputs inputs_now : A) (old new : Sinks) : Type 0 where
  pub ran : (ask : Ask) → IsAsked words ask → IsRun ask s (source_of of_inputs inputs) (source_of of_inputs inputs_now) old new
  pub bad_words : s ≡ status.BadWords → (ask : Ask) → IsAsked words ask → ⊥
  pub refused : ((ask : Ask) → IsAsked words ask → ⊥) → (inputs_now ≡ inputs) × RefusesWords s old new
  pub input : InputCount s (of_inputs.faults inputs) (of_inputs.faults inputs_now)
  pub output : OutputsMove ((ask : Ask) → IsAsked words ask → BindsApart ask) s old new
