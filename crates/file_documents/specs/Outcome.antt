-- What a run has done, compared with the items that it had to write.
use Rattle.std.specs.Prelude.{◌≡◌, ℕ, ◌+◌, ◌≤◌, ◌⊎◌, Bool, true, false, List, [], ◌∷◌, ◌++◌, length, min, drop, Option, None, Some, IfSome, option_map}
use Rattle.std.specs.FinMap.{get}
use Rattle.pt_core.specs.Counts.{Rose, last_count}
use Rattle.pt_core.specs.Files.{Contents, Files}
use Rattle.bitmap_input.specs.Cut.{FileEnd, is_by_end}
use Rattle.bitmap_input.specs.FaultText.{cause_text}
use Rattle.bitmap_input.specs.Raw.{Raw}
use Rattle.bitmap_input.specs.Reading.Cause.{Device}
use Rattle.bitmap_input.specs.Front.{front, page_at}
use Rattle.bitmap_input.specs.Front.Answer.{Page}
use Rattle.bitmap_input.specs.FilePages.{next_begins}
use Rattle.run_output.specs.Made.{Past, no_past}
use Rattle.run_output.specs.Messages.{not_opened, page_line}
use Rattle.run_output.specs.declared.status.Status.{Status}
use Rattle.run_output.specs.declared.status.Status.TheVariants as status
use Rattle.page_batches.specs.Items.{Item}
use Rattle.page_batches.specs.Items.Item.{Refuse}
use Rattle.page_batches.specs.ItemsDone.{AreCarriedOut, HasEnded}
use Rattle.run_output.specs.Told.{Sinks, Source}
use Rattle.file_documents.specs.FileItems.{AreItems, ArePageItems, HoldsPages, IsAbsent, Nothing, PagesAlone}
use Rattle.file_documents.specs.Manner.{Manner, base_by}
use Rattle.file_documents.specs.Order.{AreAllItems, Order, order_of}

-- the file of this name is in the list, and the number of openings is the number of files up to it. The names of the
-- earlier ones aren't part of this
pub record OpensUpTo (names : List (List ℕ)) (name : List ℕ) (front : List (List ℕ)) (openings openings_now : ℕ) : Type 0 where
  pub back : List (List ℕ)
  pub listed : names ≡ front ++ name ∷ back
  pub grew : openings_now ≡ min (openings + (length front + 1)) last_count

-- the name of the open file, if a file is open and that is known
abbrev pub opened_name : Option Files → Option (List ℕ)
opened_name None = None
opened_name (Some files) = option_map (λ file. file.name) files.opened

-- nothing was opened; or the number of openings is the number of files up to some file of the list, and that file is
-- the open one, if that is known
abbrev pub OpensFirst : List (List ℕ) → Source → Source → Type 0
OpensFirst names source source_now =
    ((source_now.openings ≡ source.openings) × (source_now.files ≡ source.files))
    ⊎ ((name : List ℕ) × (front : List (List ℕ)) × OpensUpTo names name front source.openings source_now.openings
    × IfSome (opened_name source_now.files) (λ opened. opened ≡ name))

-- a file can't be opened: it is missing, or a device failed. The first items, and all items of the files before it,
-- are carried out, and its message is the last one.
pub record IsUnopened (first : List Item) (order : Order) (past : Past) (source source_now : Source) (old new : Sinks) : Type 0 where
  pub name : List ℕ
  pub front : List (List ℕ)
  pub before : List Item
  pub reached : OpensUpTo order.names name front source.openings source_now.openings
  pub closed : source_now.is_opened ≡ false
  pub cause : IsAbsent order.contents name ⊎ Rose source.faults source_now.faults
  pub items : AreItems order.contents order.manner Nothing front past before
  pub done : AreCarriedOut (first ++ before) (not_opened name ∷ []) old new

-- the file of this name is the open one, if that is known, and these bytes of it are unread
abbrev pub IsOpenedAt : List ℕ → List ℕ → Option Files → Type 0
IsOpenedAt name rest told = IfSome told (λ files. files.opened ≡ Some (record { name = name; rest = rest }))

-- the run is in a file of the order: these pages of it were read, and `before` are the items of the files before it
-- and the parts that are its pages
pub record StandsIn (order : Order) (past : Past) (source source_now : Source) : Type 0 where
  pub name : List ℕ
  pub front : List (List ℕ)
  pub raws : List Raw
  pub rest : List ℕ
  pub before : List Item
  pub reached : OpensUpTo order.names name front source.openings source_now.openings
  pub opened : IsOpenedAt name rest source_now.files
  pub items : AreItems order.contents order.manner
      (λ past items. ArePageItems order.manner name (base_by order.manner name) PagesAlone raws 0 past items) front past before

-- the first pages of the bytes are these, and `behind` is what follows the bytes that they take; the last page may
-- claim some of it
abbrev pub LeavesBehind : Bool → List ℕ → List Raw → List ℕ → Type 0
LeavesBehind later bytes [] behind = bytes ≡ behind
LeavesBehind later bytes (raw ∷ []) behind = (used : ℕ) × (front later bytes ≡ Page raw used) × (behind ≡ drop used bytes)
LeavesBehind later bytes (raw ∷ next ∷ raws) behind =
    (used : ℕ) × (front later bytes ≡ Page raw used) × LeavesBehind true (drop (next_begins bytes raw used) bytes) (next ∷ raws) behind

-- the first pages of the bytes are these, none of them is by the end of the bytes, and `rest` is what follows them
abbrev pub BeginsSettled : Bool → List ℕ → List Raw → List ℕ → Type 0
BeginsSettled later bytes [] rest = bytes ≡ rest
BeginsSettled later bytes (raw ∷ raws) rest =
    (used : ℕ) × (front later bytes ≡ Page raw used) × (is_by_end (page_at later bytes) ≡ false)
    × BeginsSettled true (drop (next_begins bytes raw used) bytes) raws rest

-- a page came before, or there is one among these
abbrev pub is_later : Bool → List Raw → Bool
is_later later [] = later
is_later later (raw ∷ raws) = true

-- a read failed after these pages: the bytes that were taken of the file begin with them, and what follows is cut
-- short by the end of those bytes
pub record StopsReading (taken : List ℕ) (raws : List Raw) : Type 0 where
  pub left : List ℕ
  pub pages : BeginsSettled false taken raws left
  pub by_end : is_by_end (page_at (is_later false raws) left) ≡ true

-- the bytes of the file of this name, if they are known, are those that were taken and those still unread
abbrev pub HoldsBytes : Option Contents → List ℕ → List ℕ → List ℕ → Type 0
HoldsBytes None name taken rest = Unit {0}
HoldsBytes (Some contents) name taken rest = get contents name ≡ Some (taken ++ rest)

-- a read failed: the first items, and those up to the place at which the run is, are carried out; of the file, these
-- are the pages that had been taken whole. The message of the page after them is the last one
pub record IsUnread (first : List Item) (order : Order) (past : Past) (source source_now : Source) (old new : Sinks) : Type 0 where
  pub place : StandsIn order past source source_now
  pub taken : List ℕ
  pub bytes : HoldsBytes order.contents place.name taken place.rest
  pub rose : Rose source.faults source_now.faults
  pub stops : StopsReading taken place.raws
  pub done : AreCarriedOut (first ++ place.before) (page_line place.name (length place.raws + 1) (cause_text Device) ∷ []) old new

-- the bytes begin with these pages, and the unread ones are as many as `rest` has. At most 65,536 were taken after
-- those that the pages take, or after some first bytes whose end leaves open what follows the pages
abbrev pub ReadsNear : List ℕ → List Raw → List ℕ → Type 0
ReadsNear bytes raws rest =
    ((behind : List ℕ) × LeavesBehind false bytes raws behind × (length behind ≤ length rest + 65536))
    ⊎ ((unsettled : List ℕ) × (behind : List ℕ) × (bytes ≡ unsettled ++ behind) × StopsReading unsettled raws × (length behind ≤ length rest + 65536))

-- `ReadsNear` for the file of this name, if its bytes are known
abbrev pub ReadsFileNear : Option Contents → List ℕ → List Raw → List ℕ → Type 0
ReadsFileNear None name raws rest = Unit {0}
ReadsFileNear (Some contents) name raws rest = (bytes : List ℕ) × (get contents name ≡ Some bytes) × ReadsNear bytes raws rest

-- a page is refused: the first items, and those up to the place at which the run is, are carried out, and the
-- refusal's message is the last one. No other file was opened, and this one is read at most 65,536 bytes farther than
-- decides that.
pub record IsStopped (first : List Item) (order : Order) (past : Past) (source source_now : Source) (old new : Sinks) : Type 0 where
  pub place : StandsIn order past source source_now
  pub message : List ℕ
  pub near : ReadsFileNear order.contents place.name place.raws place.rest
  pub all : AreAllItems order past (place.before ++ Refuse message ∷ [])
  pub done : AreCarriedOut (first ++ place.before) (message ∷ []) old new

-- the file of this name has these pages, and it is the open one, if that is known: it is read at most 65,536 bytes
-- farther than decides how its pages end
pub record EndsNear (contents : Option Contents) (name : List ℕ) (source_now : Source) : Type 0 where
  pub raws : List Raw
  pub ending : FileEnd
  pub rest : List ℕ
  pub pages : HoldsPages contents name raws ending
  pub opened : IsOpenedAt name rest source_now.files
  pub near : ReadsFileNear contents name raws rest

-- `EndsNear` for the last of these files, if there is one
abbrev pub LastEndsNear : Option Contents → List (List ℕ) → Source → Type 0
LastEndsNear contents [] source_now = Unit {0}
LastEndsNear contents (name ∷ []) source_now = EndsNear contents name source_now
LastEndsNear contents (name ∷ next ∷ names) source_now = LastEndsNear contents (next ∷ names) source_now

-- what was done of these first items and those of the files of an order, after what was made before
abbrev pub IsOutcomeBehind : Status → List Item → Order → Past → Source → Source → Sinks → Sinks → Type 0
IsOutcomeBehind status.Unread first order past source source_now old new =
    IsUnopened first order past source source_now old new ⊎ IsUnread first order past source source_now old new
IsOutcomeBehind status.Refused first order past source source_now old new = IsStopped first order past source source_now old new
IsOutcomeBehind status.Done first order past source source_now old new =
    (items : List Item) × AreAllItems order past items × HasEnded status.Done (first ++ items) old new
    × (source_now.openings ≡ min (source.openings + length order.names) last_count) × LastEndsNear order.contents order.names source_now
IsOutcomeBehind s first order past source source_now old new =
    (items : List Item) × AreAllItems order past items × HasEnded s (first ++ items) old new

-- what was done of the items of the files of these names
abbrev pub IsOutcome : Status → Manner → List (List ℕ) → Source → Source → Sinks → Sinks → Type 0
IsOutcome s manner names source source_now old new = IsOutcomeBehind s [] (order_of manner names source) no_past source source_now old new

-- how the inputs' count of faults moved: it rose if a read failed (and perhaps a document of an earlier page couldn't
-- be written), it may rise if memory ran out, and it stayed otherwise; no run over files reports that its input is
-- wrong
abbrev pub InputCount : Status → ℕ → ℕ → Type 0
InputCount status.Unread before now = Unit {0}
InputCount status.OutOfMemory before now = Unit {0}
InputCount status.Done before now = now ≡ before
InputCount status.BadWords before now = now ≡ before
InputCount status.Refused before now = now ≡ before
InputCount status.Unwritten before now = Unit {0}
InputCount status.Wrong before now = ⊥
