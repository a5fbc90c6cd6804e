-- How calls end that carry out items.
use Rattle.std.specs.Prelude.{◌≡◌, ℕ, ◌⊎◌, List, [], ◌∷◌, Result, Ok, Err}
use Rattle.run_output.specs.Messages.{out_of_memory}
use Rattle.run_output.specs.Parts.{end_part}
use Rattle.run_output.specs.Told.{Sinks}
use Rattle.run_output.specs.declared.status.Status.{Status}
use Rattle.run_output.specs.declared.status.Status.TheVariants as status
use Rattle.page_batches.specs.Items.{Item}
use Rattle.page_batches.specs.Items.Item.{Write}
use Rattle.page_batches.specs.ItemsDone.{AreCarriedOut, IsUnwritten}

-- how a call ended that was to write items: they are carried out, or a part of them isn't written
abbrev pub EndsWriting : {E : Type 0} → Result Unit E → List Item → Sinks → Sinks → Type 0
EndsWriting (Ok done) items old new = AreCarriedOut items [] old new
EndsWriting (Err fault) items old new = IsUnwritten items old new

-- how a call ended that was to end the document of so many pages: that is done, and nothing is said; or its end isn't
-- written, and whatever was to be said then isn't either
abbrev pub EndsDocument : {E : Type 0} → Result Unit E → List ℕ → ℕ → Sinks → Sinks → Type 0
EndsDocument (Ok done) name pages old new = AreCarriedOut (Write (end_part name pages []) ∷ []) [] old new
EndsDocument (Err fault) name pages old new = (notes : List (List ℕ)) → IsUnwritten (Write (end_part name pages notes) ∷ []) old new

-- how a call ended that answers how the run ends, where it does
abbrev pub ended_with : Result Unit Status → Status
ended_with (Ok done) = status.Done
ended_with (Err s) = s

-- the run ends within items: a part isn't written, or memory runs out
abbrev pub IsHalt : Status → Type 0
IsHalt s = (s ≡ status.Unwritten) ⊎ (s ≡ status.OutOfMemory)

-- where memory ran out nothing was carried out: that was said
abbrev pub IsIdle : Status → Sinks → Sinks → Type 0
IsIdle s old new = s ≡ status.OutOfMemory → AreCarriedOut [] (out_of_memory ∷ []) old new
