-- Where a run over files stands, and what led from one such place to the next.
use Rattle.std.proofs.Common.{◌≡◌, ℕ, List, Option}
use Rattle.pt_core.specs.Counts.{next_count}
use Rattle.pt_core.specs.Files.{Contents, Lacks, with_file}
use Rattle.pt_core.specs.declared.inputs.Inputs.{Ghosts as InputGhosts}
use Rattle.pt_core.specs.declared.sink.Sink.{Ghosts as SinkGhosts}
use Rattle.run_output.specs.Made.{Past}
use Rattle.run_output.specs.Told.{Sinks, Source, source_of}
use Rattle.run_output.specs.declared.status.Status.{Status}
use Rattle.page_batches.specs.Held.{Held}
use Rattle.page_batches.specs.Inner.Desks.{sinks_at}
use Rattle.page_batches.specs.Items.{Item}
use Rattle.page_batches.specs.declared.desk.Desk.{Desk}
use Rattle.file_documents.specs.Manner.{Manner}
use Rattle.file_documents.specs.OnePass.{IsOnePassBehind}
use Rattle.file_documents.specs.Order.{Order}
use Rattle.file_documents.specs.Outcome.{IsOutcomeBehind}
use Rattle.file_documents.specs.Inner.Progress.{Converts, ConvertsFile, Halts, LosesWithin}
use Rattle.file_documents.specs.declared.pages.PagesEnd.{PagesEnd}

-- where a run stands: what it made so far, what it holds, and what its inputs and its sinks tell
pub record Standing : Type 0 where
  pub made : Past
  pub held : List Held
  pub source : Source
  pub sinks : Sinks

-- where it stands with these inputs and this desk
abbrev pub standing_at : {I O E : Type 0} → InputGhosts I → SinkGhosts O → SinkGhosts E → Past → List Held → I → Desk O E → Standing
standing_at of_inputs of_outs of_errs made held inputs desk =
    record { made = made; held = held; source = source_of of_inputs inputs; sinks = sinks_at of_outs of_errs desk }

-- the file of this name was opened
pub record OpensFile (name : List ℕ) (old new : Source) : Type 0 where
  pub file : new.files ≡ with_file old.files name
  pub there : Lacks old.files name → ⊥
  pub one_more : new.openings ≡ next_count old.openings

-- the pages of the file that was opened at `start` were read, k of them, and then the reading ended so
abbrev pub ConvertsTo : ℕ → Manner → List ℕ → Standing → Source → Standing → ℕ → PagesEnd → Type 0
ConvertsTo size manner base from start to k end =
    Converts size manner base from.made start.files to.source.files from.held to.held from.sinks to.sinks k end

-- the run halted within the pages of the file that was opened at `start`
abbrev pub HaltsAt : Status → ℕ → Manner → List ℕ → Standing → Source → Standing → Type 0
HaltsAt s size manner base from start to = Halts s size manner base from.made start.files to.source.files from.held from.sinks to.sinks

-- the file of this name was converted
abbrev pub ConvertsFileTo : ℕ → Option Contents → Manner → List ℕ → Standing → Standing → Type 0
ConvertsFileTo size contents manner name from to = ConvertsFile size contents manner name from.made to.made from.held to.held from.sinks to.sinks

-- the run over the files of an order ended so, behind these first items
abbrev pub IsOutcomeAt : Status → List Item → Order → Standing → Standing → Type 0
IsOutcomeAt s first order from to = IsOutcomeBehind s first order from.made from.source to.source from.sinks to.sinks

-- and so far it had read, where a document couldn't be written
abbrev pub IsOnePassAt : ℕ → List Item → Order → Standing → Standing → Type 0
IsOnePassAt size first order from to = IsOnePassBehind size first order from.made from.source to.source from.sinks to.sinks

-- or where memory ran out
abbrev pub LosesAt : ℕ → List Item → Order → Standing → Standing → Type 0
LosesAt size first order from to = LosesWithin size first order from.made from.source to.source from.sinks to.sinks
