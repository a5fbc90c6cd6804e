-- How far a run has read if a document couldn't be written: to the end of that document's batch.
use Rattle.std.specs.Prelude.{◌≡◌, ◌≢◌, ℕ, ◌+◌, ◌*◌, ◌/◌, ◌≤◌, false, List, [], ◌++◌, length, Some, IfSome}
use Rattle.std.specs.FinMap.{get}
use Rattle.pt_core.specs.Counts.{Rose}
use Rattle.pt_core.specs.Files.{Contents}
use Rattle.run_output.specs.Made.{Past, no_past}
use Rattle.page_batches.specs.Items.{GoesOn, Item, page_count}
use Rattle.page_batches.specs.ItemsDone.{IsUnwritten}
use Rattle.run_output.specs.Told.{Sinks, Source}
use Rattle.file_documents.specs.Manner.{Manner}
use Rattle.file_documents.specs.Order.{AreAllItems, Order, order_of}
use Rattle.file_documents.specs.Outcome.{LeavesBehind, StandsIn}

-- the number of pages up to the end of the batch that follows k whole pages, in batches of `size` pages
abbrev pub batch_end : ℕ → ℕ → ℕ
batch_end size k = (k / size + 1) * size

-- `pages` pages were read after these first items, the last of them in the file in which the run is; at most 65,536
-- bytes of that file were taken after its pages
pub record ReadsTo (pages : ℕ) (first : List Item) (order : Order) (past : Past) (source source_now : Source) (contents : Contents) : Type 0 where
  pub place : StandsIn order past source source_now
  pub bytes : List ℕ
  pub behind : List ℕ
  pub held : get contents place.name ≡ Some bytes
  pub some : place.raws ≢ []
  pub begins : LeavesBehind false bytes place.raws behind
  pub near : length behind ≤ length place.rest + 65536
  pub goes_on : GoesOn place.before
  pub count : page_count (first ++ place.before) ≡ pages

-- `ReadsTo`, if the contents of the files are known
abbrev pub IfReadsTo : ℕ → List Item → Order → Past → Source → Source → Type 0
IfReadsTo pages first order past source source_now = IfSome order.contents (λ contents. ReadsTo pages first order past source source_now contents)

-- after these first items, a part of a document couldn't be written: if no input failed, and there are enough pages to
-- fill that part's batch, no more was read than the batch
pub record IsOnePassBehind (size : ℕ) (first : List Item) (order : Order) (past : Past) (source source_now : Source) (old new : Sinks) : Type 0 where
  pub items : List Item
  pub are : AreAllItems order past items
  pub unwritten : IsUnwritten (first ++ items) old new
  pub no_farther : (Rose source.faults source_now.faults → ⊥) → batch_end size (page_count unwritten.before) ≤ page_count (first ++ items)
      → IfReadsTo (batch_end size (page_count unwritten.before)) first order past source source_now

-- `IsOnePassBehind` with no items before
abbrev pub IsOnePass : ℕ → Manner → List (List ℕ) → Source → Source → Sinks → Sinks → Type 0
IsOnePass size manner names source source_now old new = IsOnePassBehind size [] (order_of manner names source) no_past source source_now old new
