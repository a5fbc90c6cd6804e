-- What is held until a batch is full: how many pages, whether documents are begun and ended in turn, and how calls leave it.
use Rattle.std.specs.Prelude.{◌≡◌, ℕ, zero, suc, ◌*◌, ◌<◌, Bool, true, false, List, [], ◌∷◌, ◌++◌, map, Option, None, Some, Result, Ok, Err}
use Rattle.bit_image.specs.Page.{Page as Pixels}
use Rattle.run_output.specs.Messages.{trailing_line}
use Rattle.run_output.specs.Inner.Parts.{is_begun}
use Rattle.run_output.specs.declared.part.Binding.{Binding}
use Rattle.run_output.specs.declared.part.Binding.TheVariants as binding
use Rattle.run_output.specs.declared.status.Status.{Status}
use Rattle.run_output.specs.declared.status.Status.TheVariants as status
use Rattle.page_batches.specs.Items.{Item, page_count}
use Rattle.page_batches.specs.ItemsDone.{AreCarriedOut, HasEnded}
use Rattle.run_output.specs.Told.{Sinks}
use Rattle.page_batches.specs.Held.{Held, AreHeld}
use Rattle.page_batches.specs.Held.Held.{Page, End, Message}

-- what is held of the end of a file of so many pages, of which these messages are said: where its pages stand in one
-- document of this name, that is ended first
abbrev pub end_held : Binding → List ℕ → ℕ → List (List ℕ) → List Held
end_held binding.Apart name pages notes = map Message notes
end_held binding.Together name zero notes = map Message notes
end_held binding.Together name (suc k) notes = End name (suc k) notes ∷ []

-- what is said at the end of a file of so many pages, where bytes follow that begin no page: this is its name then
abbrev pub end_notes : Option (List ℕ) → ℕ → List (List ℕ)
end_notes None pages = []
end_notes (Some file) pages = trailing_line file pages ∷ []

-- how a call ended that was to hold more: that is held behind the rest; or memory ran out, and nothing changed
abbrev pub HoldsMore : {E : Type 0} → Result Unit E → List Held → List Held → List Held → Type 0
HoldsMore (Ok done) more old new = new ≡ old ++ more
HoldsMore (Err failed) more old new = new ≡ old

-- how many pages are held
abbrev pub pages_held : List Held → ℕ
pages_held [] = 0
pages_held (Page name before page ∷ held) = suc (pages_held held)
pages_held (other ∷ held) = pages_held held

-- what is held begins a document exactly where none is open, and ends one where one is
abbrev pub AreInTurn : Binding → Bool → List Held → Type 0
AreInTurn b is_open [] = Unit {0}
AreInTurn b is_open (Page name before page ∷ held) = (is_open ≡ is_begun b before) × AreInTurn b (is_begun b (suc before)) held
AreInTurn b is_open (End name pages notes ∷ held) = (is_open ≡ true) × AreInTurn b false held
AreInTurn b is_open (Message message ∷ held) = AreInTurn b is_open held

-- whether a document is open behind what is held
abbrev pub is_open_held : Binding → Bool → List Held → Bool
is_open_held b is_open [] = is_open
is_open_held b is_open (Page name before page ∷ held) = is_open_held b (is_begun b (suc before)) held
is_open_held b is_open (End name pages notes ∷ held) = is_open_held b false held
is_open_held b is_open (Message message ∷ held) = is_open_held b is_open held

-- what is held, of fewer pages than a batch of this size has, is to be carried out where a document is open, or not:
-- it begins and ends documents in turn, and so many pages of a file came last
pub record Waits (b : Binding) (size pages : ℕ) (is_open : Bool) (held : List Held) : Type 0 where
  pub few : pages_held held < size
  pub turn : AreInTurn b is_open held
  pub next : is_open_held b is_open held ≡ is_begun b pages

-- of the items that were read the first are carried out, in whole batches of so many pages, and the others are held
pub record Holds (b : Binding) (size : ℕ) (belongs : Pixels → List ℕ → Type 0) (read : List Item) (held : List Held) (old new : Sinks) : Type 0 where
  pub done : List Item
  pub left : List Item
  pub split : read ≡ done ++ left
  pub batches : ℕ
  pub whole : page_count done ≡ batches * size
  pub carried : AreCarriedOut done [] old new
  pub are_held : AreHeld b belongs held left

-- how a call ended that was to hold items behind those that were read: they are carried out or held; or the run ends
-- within them, since a part isn't written, or memory runs out
abbrev pub EndsHolding : Result Unit Status → Binding → ℕ → (Pixels → List ℕ → Type 0) → List Item → List Held → Sinks → Sinks → Type 0
EndsHolding (Ok done) b size belongs read held old new = Holds b size belongs read held old new
EndsHolding (Err status.Unwritten) b size belongs read held old new = HasEnded status.Unwritten read old new
EndsHolding (Err status.OutOfMemory) b size belongs read held old new = HasEnded status.OutOfMemory read old new
EndsHolding (Err s) b size belongs read held old new = ⊥

-- how a call ended that was to carry out what was held, where a document is open, or not: nothing is held, and one is
-- open as it has to be then; or a part wasn't written; or memory ran out, and one is open as it was
abbrev pub LeavesBatch : Result Unit Status → Binding → Bool → Bool → List Held → List Held → Type 0
LeavesBatch (Ok done) b is_open is_open_now old new = (new ≡ []) × (is_open_now ≡ is_open_held b is_open old)
LeavesBatch (Err status.Unwritten) b is_open is_open_now old new = new ≡ []
LeavesBatch (Err status.OutOfMemory) b is_open is_open_now old new = (new ≡ []) × (is_open_now ≡ is_open)
LeavesBatch (Err s) b is_open is_open_now old new = ⊥
