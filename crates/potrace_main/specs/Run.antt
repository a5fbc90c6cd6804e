-- What the top call promises.
use Rattle.std.specs.Prelude.{◌≡◌, ℕ, ◌*◌, ◌⊎◌, List, [], ◌∷◌, ◌++◌, Option}
use Rattle.pt_core.specs.Failures.{Failures, after_err}
use Rattle.pt_core.specs.Files.{Contents}
use Rattle.pt_core.specs.declared.settings.Settings.{Settings}
use Rattle.run_output.specs.Made.{no_past}
use Rattle.run_output.specs.Messages.{bad_words, out_of_memory}
use Rattle.run_output.specs.Names.{backend_suffix, dash}
use Rattle.run_output.specs.Parts.{binding_of}
use Rattle.run_output.specs.Status.{code_of}
use Rattle.run_output.specs.declared.part.Binding.TheVariants.{Apart}
use Rattle.run_output.specs.declared.status.Status.{Status}
use Rattle.run_output.specs.declared.status.Status.TheVariants as status
use Rattle.potrace_words.specs.declared.ask.Ask.{Ask}
use Rattle.potrace_words.specs.declared.ask.Ask.TheVariants as asks
use Rattle.page_batches.specs.Items.{Doc, GoesOn, Item}
use Rattle.page_batches.specs.Items.Item.{Missing, Refuse}
use Rattle.page_batches.specs.ItemsDone.{AreCarriedOut, HasEnded}
use Rattle.run_output.specs.Told.{Sinks, Source}
use Rattle.file_documents.specs.FileItems.{AreItems, IsAbsent, Nothing, told_contents}
use Rattle.file_documents.specs.Manner.{Manner, manner_by}
use Rattle.file_documents.specs.LastBatch.{LosesBatch}
use Rattle.file_documents.specs.OnePass.{IsOnePass}
use Rattle.file_documents.specs.Order.{order_of}
use Rattle.file_documents.specs.Outcome.{IsOutcome}
use Rattle.page_trace.specs.Document.{IsDocument}
use Rattle.potrace_main.specs.Demo.{IsDemoText}
use Rattle.potrace_main.specs.Usage.{help_text, version_text}

-- the exit status is the code of a status of which this holds
abbrev pub IsCodeOf : ℕ → (Status → Type 0) → Type 0
IsCodeOf code P = (s : Status) × (code ≡ code_of s) × P s

-- the manner in which files become documents under some settings: a page's text is its document, or its page in that of
-- its file
abbrev pub manner_under : Settings → Option (List ℕ) → Manner
manner_under settings output =
    manner_by settings.level settings.invert output (backend_suffix settings.backend) (binding_of settings.backend) (λ page text. IsDocument page settings text)

-- what a run is to write that is asked for this
abbrev pub AreItemsOf : Ask → Option Contents → List Item → Type 0
AreItemsOf asks.Help contents items = items ≡ Doc dash help_text ∷ []
AreItemsOf asks.Version contents items = items ≡ Doc dash version_text ∷ []
AreItemsOf (asks.Demo pages workers settings) contents items = (text : List ℕ) × IsDemoText pages settings text × (items ≡ Doc dash text ∷ [])
AreItemsOf (asks.Files names output workers settings) contents items = AreItems contents (manner_under settings output) Nothing names no_past items

-- what a run has done that was asked for this: of files, what follows from how far it read; else its items are carried out
-- as far as the status says
abbrev pub IsOutcomeOf : Ask → Status → Source → Source → Sinks → Sinks → Type 0
IsOutcomeOf (asks.Files names output workers settings) s source source_now old new = IsOutcome s (manner_under settings output) names source source_now old new
IsOutcomeOf ask s source source_now old new = (items : List Item) × AreItemsOf ask (told_contents source.files) items × HasEnded s items old new

-- the same is asked for, to be traced by so many workers
abbrev pub with_workers : ℕ → Ask → Ask
with_workers n asks.Help = asks.Help
with_workers n asks.Version = asks.Version
with_workers n (asks.Demo pages workers settings) = asks.Demo pages n settings
with_workers n (asks.Files names output workers settings) = asks.Files names output n settings

-- the files that a run may open
abbrev pub names_of : Ask → List (List ℕ)
names_of (asks.Files names output workers settings) = names
names_of ask = []

-- one of these files isn't there
abbrev pub IsMissing : List (List ℕ) → Option Contents → Type 0
IsMissing names contents = (name : List ℕ) × (front : List (List ℕ)) × (back : List (List ℕ)) × (names ≡ front ++ name ∷ back) × IsAbsent contents name

-- words were refused: that is said, or that memory ran out, and nothing is written
abbrev pub RefusesWords : Status → Sinks → Sinks → Type 0
RefusesWords status.BadWords old new = AreCarriedOut [] (bad_words ∷ []) old new
RefusesWords status.OutOfMemory old new = AreCarriedOut [] (out_of_memory ∷ []) old new
RefusesWords s old new = ⊥

-- what the calls of the outputs answered: where a document couldn't be written one failed, and it was the last one;
-- else none did; and no run tells that its input is wrong
abbrev pub FailureCount : Status → Failures → Failures → Type 0
FailureCount status.Unwritten old new = new ≡ after_err old
FailureCount status.Wrong old new = ⊥
FailureCount s old new = new.count ≡ old.count

-- each page has a document of its own
abbrev pub BindsApart : Ask → Type 0
BindsApart (asks.Files names output workers settings) = binding_of settings.backend ≡ Apart
BindsApart ask = Unit {0}

-- the last of the items is a refusal
abbrev pub EndsRefused : List Item → Type 0
EndsRefused items = (before : List Item) × (message : List ℕ) × (items ≡ before ++ Refuse message ∷ [])

-- the last of the items is a file that isn't there
abbrev pub EndsMissing : List Item → Type 0
EndsMissing items = (before : List Item) × (name : List ℕ) × (items ≡ before ++ Missing name ∷ [])

-- what the status is where no device failed, unless memory ran out: all is done; or the run ends with the
-- refusal, or with the file that isn't there
pub record IsComplete (s : Status) (items : List Item) : Type 0 where
  pub all : GoesOn items → (s ≡ status.Done) ⊎ (s ≡ status.OutOfMemory)
  pub refusal : EndsRefused items → (s ≡ status.Refused) ⊎ (s ≡ status.OutOfMemory)
  pub missing : EndsMissing items → (s ≡ status.Unread) ⊎ (s ≡ status.OutOfMemory)

-- where a document of files couldn't be written, no more was read than the batch of that document: twice as many
-- pages as there are workers
abbrev pub IsOnePassOf : Ask → Source → Source → Sinks → Sinks → Type 0
IsOnePassOf (asks.Files names output workers settings) source source_now old new =
    IsOnePass (2 * workers) (manner_under settings output) names source source_now old new
IsOnePassOf ask source source_now old new = Unit {0}

-- where memory ran out over files, whole batches are carried out, and at most one batch more was read: it has twice as many
-- pages as there are workers
abbrev pub LosesBatchOf : Ask → Source → Source → Sinks → Sinks → Type 0
LosesBatchOf (asks.Files names output workers settings) source source_now old new =
    LosesBatch (2 * workers) (order_of (manner_under settings output) names source) source source_now old new
LosesBatchOf ask source source_now old new = Unit {0}
