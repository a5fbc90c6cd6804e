-- How far a run has read if memory ran out: at most one batch farther than it has written.
use Rattle.std.specs.Prelude.{◌≡◌, ℕ, ◌+◌, ◌*◌, ◌≤◌, ◌⊎◌, false, List, [], ◌++◌, Option}
use Rattle.pt_core.specs.Files.{Contents}
use Rattle.bitmap_input.specs.Raw.{Raw}
use Rattle.run_output.specs.Made.{Past, no_past}
use Rattle.page_batches.specs.Items.{GoesOn, Item, page_count}
use Rattle.page_batches.specs.ItemsDone.{IsOutOfMemory}
use Rattle.run_output.specs.Told.{Sinks, Source}
use Rattle.file_documents.specs.FileItems.{AreItems, ArePageItems, PagesAlone}
use Rattle.file_documents.specs.Manner.{base_by}
use Rattle.file_documents.specs.Order.{AreAllItems, Order}
use Rattle.file_documents.specs.Outcome.{IsOpenedAt, LastEndsNear, OpensUpTo, ReadsFileNear}

-- the file of this name couldn't be opened, and no page of it was read; or it is the open one, if that is known, and
-- it is read at most 65,536 bytes farther than these pages take or than decides what follows them
abbrev pub IsReadTo : Option Contents → List ℕ → List Raw → Source → Type 0
IsReadTo contents name raws source_now =
    ((raws ≡ []) × (source_now.is_opened ≡ false))
    ⊎ ((rest : List ℕ) × IsOpenedAt name rest source_now.files × ReadsFileNear contents name raws rest)

-- one of the files of an order, after these first items, was the last that was asked for; with its pages that were
-- read, at most `most` pages were read
pub record ReadsAtMost (most : ℕ) (first : List Item) (order : Order) (past : Past) (source source_now : Source) : Type 0 where
  pub name : List ℕ
  pub front : List (List ℕ)
  pub raws : List Raw
  pub before : List Item
  pub reached : OpensUpTo order.names name front source.openings source_now.openings
  pub read : IsReadTo order.contents name raws source_now
  pub items : AreItems order.contents order.manner
      (λ past items. ArePageItems order.manner name (base_by order.manner name) PagesAlone raws 0 past items) front past before
  pub goes_on : GoesOn before
  pub few : page_count (first ++ before) ≤ most

-- no file was opened; or at most this many pages were read, from some first files; or from all files, and the items
-- are theirs
abbrev pub ReadsFew : ℕ → List Item → Order → Source → Source → Type 0
ReadsFew most items order source source_now =
    ((source_now.openings ≡ source.openings) × (source_now.files ≡ source.files))
    ⊎ ReadsAtMost most [] order no_past source source_now
    ⊎ ((page_count items ≤ most) × LastEndsNear order.contents order.names source_now)

-- memory ran out: whole batches of `size` pages are carried out, and at most one more batch was read
pub record LosesBatch (size : ℕ) (order : Order) (source source_now : Source) (old new : Sinks) : Type 0 where
  pub items : List Item
  pub are : AreAllItems order no_past items
  pub out : IsOutOfMemory items old new
  pub batches : ℕ
  pub whole : page_count out.before ≡ batches * size
  pub no_farther : ReadsFew (page_count out.before + size) items order source source_now
