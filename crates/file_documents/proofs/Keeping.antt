-- What stays the same from call to call.
use Rattle.std.proofs.Common.{ℕ, List, Err, ◌∙◌}
use Rattle.bit_image.specs.Page.{Page as Pixels}
use Rattle.bitmap_input.specs.Reader.{Reader}
use Rattle.run_output.specs.declared.part.Binding.{Binding}
use Rattle.run_output.specs.declared.status.Status.{Status}
use Rattle.run_output.specs.declared.status.Status.TheVariants as status
use Rattle.page_batches.specs.Inner.Held.{EndsHolding}
use Rattle.page_batches.specs.Held.{Held}
use Rattle.page_batches.specs.Items.{Item}
use Rattle.page_batches.specs.ItemsDone.{HasEnded}
use Rattle.run_output.specs.Told.{Sinks, Source}
use Rattle.file_documents.specs.Inner.Progress.{OpensNoFile, TakesBytes}
use Rattle.file_documents.proofs.Reading.{contents_taken, name_taken}

-- bytes were taken of the opened file
pub stays_taken : (old new : Reader) (start before now : Source) → OpensNoFile start before → TakesBytes old before new now → OpensNoFile start now
stays_taken old new start before now stays takes = record {
  openings = takes.openings ∙ stays.openings;
  name = name_taken old new before.files now.files takes.needed ∙ stays.name;
  contents = contents_taken old new before.files now.files takes.needed ∙ stays.contents;
}

-- the run ends within the items that were to be held
pub ended_by : (s : Status) (b : Binding) (size : ℕ) (belongs : Pixels → List ℕ → Type 0) (read : List Item) (held : List Held) (x y : Sinks)
    → EndsHolding (Err s) b size belongs read held x y → HasEnded s read x y
ended_by status.Unwritten b size belongs read held x y ends = ends
ended_by status.OutOfMemory b size belongs read held x y ends = ends
ended_by s b size belongs read held x y ends = absurd ends
