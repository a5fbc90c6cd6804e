-- Which part of the document was written, row by row, how the calls ended, and why writing stopped early.
use Rattle.std.specs.Prelude.{◌≡◌, ℕ, ◌*◌, ◌<◌, ◌≤◌, Bool, true, false, List, ◌++◌, length, take, Option, Result, Ok, Err}
use Rattle.pt_core.specs.Documents.{Documents, with_bytes, with_open, with_whole}
use Rattle.pt_core.specs.declared.inputs.Inputs.{Ghosts as InputGhosts}
use Rattle.pt_core.specs.declared.sink.Sink.{Ghosts as SinkGhosts}
use Rattle.bitmap_input.specs.Inner.Reading.{CountsBy}
use Rattle.bitmap_input.specs.Reading.{cause_of_fault}
use Rattle.mkbitmap_run.specs.PageHeader.{PageHeader}
use Rattle.mkbitmap.specs.Box.{Gray}
use Rattle.run_output.specs.Names.{dash}
use Rattle.run_output.specs.Told.{AllWent, BrokeOff, Source, Told, source_of, told_of}
use Rattle.mkbitmap_words.specs.declared.setup.Setup.{Setup}
use Rattle.mkbitmap_run.specs.Result.{result_row, result_text}
use Rattle.mkbitmap_run.specs.Inner.FilterWork.{GivesRows, GetsReady, IsAtWork, StopsBefore, StopsBehind, header_of, setup_of}
use Rattle.mkbitmap_run.specs.FilterRun.{HasFirstRows, rows_above, need_of, PutsFront, IsCutAt}
use Rattle.mkbitmap_run.specs.declared.fault.Break.{Break}
use Rattle.mkbitmap_run.specs.declared.fault.Break.TheVariants as breaks
use Rattle.mkbitmap_run.specs.declared.work.Work.{Work}

-- the inputs that a page comes from, and the outputs that its result is written to
pub record World : Type 0 where
  pub source : Source
  pub outs : Told

-- what these inputs and outputs show
abbrev pub world_of : {A B : Type 0} → InputGhosts A → SinkGhosts B → A → B → World
world_of of_inputs of_outs inputs outs = record { source = source_of of_inputs inputs; outs = told_of of_outs outs }

-- how the calls of a step ended: only the call at which the step stopped failed, and it was the last one
abbrev pub StepEnds : {X : Type 0} → Result X Break → World → World → Type 0
StepEnds (Ok x) before now = (now.source.faults ≡ before.source.faults) × AllWent before.outs now.outs
StepEnds (Err (breaks.Input fault)) before now =
    CountsBy (cause_of_fault fault) before.source.faults now.source.faults × AllWent before.outs now.outs
StepEnds (Err breaks.Output) before now = (now.source.faults ≡ before.source.faults) × BrokeOff before.outs now.outs

-- no document is open after a whole one; the document stays open if a row of the page couldn't be read
abbrev pub LeavesSo : {X : Type 0} → Result X Break → Bool → Type 0
LeavesSo (Ok x) is_open = is_open ≡ false
LeavesSo (Err (breaks.Input fault)) is_open = is_open ≡ true
LeavesSo (Err breaks.Output) is_open = Unit {0}

-- for every page that begins with these rows, all rows above row Y were appended to the open document
abbrev pub PutsRows : Setup → PageHeader → List (List ℕ) → ℕ → Option Documents → Option Documents → Type 0
PutsRows setup header rows Y old new =
    (page : Gray) → HasFirstRows header rows page → new ≡ with_bytes old (rows_above setup page Y)

-- P holds for row Y of the result, for every page that begins with the rows before and the next ones
abbrev pub IsSoOfRow : ℕ → Work → List (List ℕ) → (List ℕ → Type 0) → Type 0
IsSoOfRow Y old next P =
    (rows : List (List ℕ)) → IsAtWork old rows → (page : Gray) → HasFirstRows (header_of old.reader) (rows ++ next) page
    → P (result_row (setup_of old.filter) page Y)

-- row Y of the result was written
pub record PutsRow (Y : ℕ) (old : Work) (before : World) (new : Work) (now : World) : Type 0 where
  pub ready : GetsReady Y old before.source.files new now.source.files
  pub put : IsSoOfRow Y old ready.next (λ row. now.outs.documents ≡ with_bytes before.outs.documents row)

-- all rows were written
pub record PutsAll (old : Work) (before : World) (new : Work) (now : World) : Type 0 where
  pub rows : List (List ℕ)
  pub gives : GivesRows old.reader before.source.files rows new.reader now.source.files
  pub all : length rows ≡ old.reader.head.height
  pub puts : PutsRows (setup_of old.filter) (header_of old.reader) rows (old.filter.times * old.reader.head.height)
      before.outs.documents now.outs.documents

-- the document was written whole
pub record PutsPage (old : Work) (before : World) (new : Work) (now : World) : Type 0 where
  pub rows : List (List ℕ)
  pub gives : GivesRows old.reader before.source.files rows new.reader now.source.files
  pub all : length rows ≡ old.reader.head.height
  pub documents : now.outs.documents ≡ with_whole before.outs.documents dash (result_text (setup_of old.filter) (header_of old.reader) rows)

-- writing row Y stopped early, before its first byte or within it
abbrev pub BreaksRow : Break → ℕ → Work → World → Work → World → Type 0
BreaksRow (breaks.Input fault) Y old before new now =
    StopsBefore (cause_of_fault fault) Y old before.source.files new.reader now.source.files × (now.outs ≡ before.outs)
BreaksRow breaks.Output Y old before new now =
    (next : List (List ℕ)) × GivesRows old.reader before.source.files next new.reader now.source.files
    × (new.reader.given ≡ need_of (setup_of old.filter) (header_of old.reader) Y)
    × IsSoOfRow Y old next (λ row. (n : ℕ) × (n ≤ length row)
    × (now.outs.documents ≡ with_bytes before.outs.documents (take n row)))

-- writing rows of the result stopped early, before row Y or within it
abbrev pub BreaksRows : Break → Work → World → Work → World → Type 0
BreaksRows (breaks.Input fault) old before new now =
    (Y : ℕ) × (Y < old.filter.times * old.reader.head.height)
    × (stop : StopsBefore (cause_of_fault fault) Y old before.source.files new.reader now.source.files)
    × ((y : ℕ) → y < Y → need_of (setup_of old.filter) (header_of old.reader) y ≤ length stop.rows)
    × PutsRows (setup_of old.filter) (header_of old.reader) stop.rows Y before.outs.documents now.outs.documents
BreaksRows breaks.Output old before new now =
    (Y : ℕ) × (Y < old.filter.times * old.reader.head.height)
    × (rows : List (List ℕ)) × GivesRows old.reader before.source.files rows new.reader now.source.files
    × (length rows ≡ need_of (setup_of old.filter) (header_of old.reader) Y)
    × PutsFront (setup_of old.filter) (header_of old.reader) rows Y before.outs.documents now.outs.documents

-- writing the document stopped early
abbrev pub BreaksPage : Break → Work → World → Work → World → Type 0
BreaksPage (breaks.Input fault) old before new now =
    (last : ℕ) × (stop : StopsBehind (cause_of_fault fault) last old.reader before.source.files new.reader now.source.files)
    × (now.outs.documents ≡ with_open before.outs.documents dash (result_text (setup_of old.filter) (header_of old.reader) stop.rows))
BreaksPage breaks.Output old before new now =
    (rows : List (List ℕ)) × GivesRows old.reader before.source.files rows new.reader now.source.files
    × IsCutAt (setup_of old.filter) (header_of old.reader) rows before.outs.documents now.outs.documents
