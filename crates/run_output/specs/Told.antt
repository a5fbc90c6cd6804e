-- What contracts know of the surroundings of a run: its inputs, its outputs and its messages.
use Rattle.std.specs.Prelude.{◌≡◌, ℕ, ◌≤◌, Bool, List, Option}
use Rattle.pt_core.specs.Counts.{Rose}
use Rattle.pt_core.specs.Documents.{Documents, IsSaid}
use Rattle.pt_core.specs.Failures.{Failures, StopsAtFailure, after_err}
use Rattle.pt_core.specs.Files.{Files}
use Rattle.pt_core.specs.declared.inputs.Inputs.{Ghosts as InputGhosts}
use Rattle.pt_core.specs.declared.sink.Sink.{Ghosts as SinkGhosts}

-- what is known of the inputs: the files, if contracts know them; whether a file is open; how many files were opened;
-- and the count of faults
pub record Source : Type 0 where
  pub files : Option Files
  pub is_opened : Bool
  pub openings : ℕ
  pub faults : ℕ

-- what these inputs show
abbrev pub source_of : {A : Type 0} → InputGhosts A → A → Source
source_of of_inputs inputs = record {
  files = of_inputs.files inputs;
  is_opened = of_inputs.is_opened inputs;
  openings = of_inputs.openings inputs;
  faults = of_inputs.faults inputs;
}

-- what is known of a sink: its documents, if contracts know them; its count of faults; and how many of its calls failed
-- and whether the last one did
pub record Told : Type 0 where
  pub documents : Option Documents
  pub faults : ℕ
  pub failures : Failures

-- what this sink shows
abbrev pub told_of : {A : Type 0} → SinkGhosts A → A → Told
told_of of_sink sink =
    record { documents = of_sink.documents sink; faults = of_sink.faults sink; failures = of_sink.failures sink }

-- what is known of the outputs, whether a document is open there, and what is known of the sink for messages
pub record Sinks : Type 0 where
  pub outs : Told
  pub is_open : Bool
  pub errs : Told

-- what these outputs and this sink for messages show
abbrev pub sinks_of : {A B : Type 0} → SinkGhosts A → SinkGhosts B → A → B → Sinks
sinks_of of_outs of_errs outs errs =
    record { outs = told_of of_outs outs; is_open = of_outs.is_ready outs; errs = told_of of_errs errs }

-- no call of a sink failed
pub record AllWent (old new : Told) : Type 0 where
  pub steady : new.faults ≡ old.faults
  pub went : new.failures.count ≡ old.failures.count

-- one call of a sink failed, and it was the last call
pub record BrokeOff (old new : Told) : Type 0 where
  pub rose : Rose old.faults new.faults
  pub failed : new.failures ≡ after_err old.failures

-- a message was written: the whole message, or a prefix of it if the count of faults rose; at most one call failed, and
-- it was the last one, after which the rest of the message was dropped
pub record IsMessage (message : List ℕ) (old new : Told) : Type 0 where
  pub said : IsSaid old.documents new.documents old.faults new.faults message
  pub given_up : StopsAtFailure old.failures new.failures
  pub never_falls : old.faults ≤ new.faults
