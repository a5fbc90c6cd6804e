-- How far the converting of files has come: which pages were read, and which of them are carried out or held.
use Rattle.std.specs.Prelude.{◌≡◌, ◌≢◌, ◌⊎◌, ℕ, suc, ◌+◌, ◌*◌, ◌<◌, ◌≤◌, Bool, false, true, List, [], ◌∷◌, ◌++◌, length, drop, Option, Some, IfSome, option_map, Result, Ok, Err}
use Rattle.pt_core.specs.Counts.{Rose, next_count}
use Rattle.pt_core.specs.declared.sink.Sink.{Ghosts as SinkGhosts}
use Rattle.pt_core.specs.Files.{Contents, Files, unread}
use Rattle.bit_image.specs.Page.{IsPage, Page as Pixels}
use Rattle.bitmap_input.specs.declared.fault.InFault.TheVariants as fault
use Rattle.bitmap_input.specs.Cut.{is_by_end}
use Rattle.bitmap_input.specs.Cut.FileEnd.{End, Trailing}
use Rattle.bitmap_input.specs.Inner.FaultText.{fault_text}
use Rattle.bitmap_input.specs.Raw.{Raw}
use Rattle.bitmap_input.specs.Front.{front, page_at}
use Rattle.bitmap_input.specs.Front.Answer.{Page, Ends}
use Rattle.bitmap_input.specs.FilePages.{next_begins}
use Rattle.bitmap_input.specs.Reading.{AreNeeded, AtEnd, Moves, cause_of_fault}
use Rattle.bitmap_input.specs.Reader.{IfSays, ReadFails, Reader, ahead as reader_ahead, at_start, is_later as reader_is_later}
use Rattle.run_output.specs.Messages.{page_line, trailing_line}
use Rattle.run_output.specs.Names.{next_name}
use Rattle.run_output.specs.Made.{Past, most_pages}
use Rattle.run_output.specs.declared.part.Binding.{Binding}
use Rattle.run_output.specs.declared.status.Status.{Status}
use Rattle.run_output.specs.declared.status.Status.TheVariants as status
use Rattle.page_batches.specs.Items.{Item, end_items, page_count}
use Rattle.page_batches.specs.Held.{AreHeld, Held}
use Rattle.page_batches.specs.Inner.Held.{Holds, Waits}
use Rattle.page_batches.specs.ItemsDone.{AreCarriedOut, HasEnded, IsOutOfMemory, IsUnwritten}
use Rattle.page_batches.specs.Inner.ItemsDone.{IsHalt}
use Rattle.run_output.specs.Told.{Sinks, Source}
use Rattle.page_batches.specs.declared.desk.Desk.{Desk}
use Rattle.file_documents.specs.FileItems.{AreItems, Rest, page_item, told_contents, too_many}
use Rattle.file_documents.specs.Manner.{Manner, shown_by}
use Rattle.file_documents.specs.Order.{AreAllItems, Order, order_of}
use Rattle.file_documents.specs.Inner.Outcome.{BeginsWith}
use Rattle.file_documents.specs.Outcome.{EndsNear, IsOutcomeBehind, LeavesBehind, ReadsNear, StopsReading, is_later, opened_name}
use Rattle.file_documents.specs.OnePass.{IsOnePassBehind}
use Rattle.file_documents.specs.LastBatch.{ReadsAtMost}
use Rattle.file_documents.specs.declared.pages.PagesEnd.{PagesEnd}
use Rattle.file_documents.specs.declared.pages.PagesEnd.TheVariants as why
use Rattle.file_documents.specs.declared.pages.Converted.{Converted}

-- these are the texts of these pages, in order
abbrev pub AreConverted : Manner → List Raw → List (List ℕ) → Type 0
AreConverted manner [] [] = Unit {0}
AreConverted manner (raw ∷ raws) (text ∷ texts) = manner.belongs (shown_by manner raw) text × AreConverted manner raws texts
AreConverted manner [] (text ∷ texts) = ⊥
AreConverted manner (raw ∷ raws) [] = ⊥

-- the items of pages with these texts, after earlier pages of their file; their documents have this base name
abbrev pub text_items : Manner → List ℕ → Past → ℕ → List (List ℕ) → List Item
text_items manner base past pages [] = []
text_items manner base past pages (text ∷ texts) = page_item manner base past pages text ∷ text_items manner base past (suc pages) texts

-- the bytes from which the reader still has to read pages, if they are known
abbrev pub ahead : Reader → Option Files → Option (List ℕ)
ahead reader files = option_map (reader_ahead reader) (unread files)

-- this page is at the start of the bytes, not by their end, and the bytes after it are `left`
pub record Settles (later : Bool) (bytes : List ℕ) (raw : Raw) (used : ℕ) (left : List ℕ) : Type 0 where
  pub is : front later bytes ≡ Page raw used
  pub open_end : is_by_end (page_at later bytes) ≡ false
  pub behind : left ≡ drop (next_begins bytes raw used) bytes

-- the next page was read from what is ahead; unless a read has returned nothing, it is the next page whatever comes
-- after the bytes that were taken
pub record ReadsPage (manner : Manner) (old : Reader) (before : Option Files) (page : Pixels) (new : Reader) (now : Option Files) : Type 0 where
  pub raw : Raw
  pub used : ℕ
  pub more : List ℕ
  pub moves : Moves old.ended before new.ended now more
  pub shows : page ≡ shown_by manner raw
  pub told : IfSome (ahead old before) (λ bytes. (front (reader_is_later old) bytes ≡ Page raw used)
      × (ahead new now ≡ Some (drop (next_begins bytes raw used) bytes)))
  pub settled : new.ended ≡ false → (tail : List ℕ) → Settles (reader_is_later old) (reader_ahead old (more ++ tail)) raw used (reader_ahead new tail)
  pub near : IfSome (unread before) (λ rest. (left : List ℕ) × (unread now ≡ Some left) × (length (drop used (reader_ahead old rest)) ≤ length left + 65536))
  pub counted : new.pages ≡ old.pages + 1
  pub going_on : new.over ≡ false

-- bytes of the file were taken, as far as they are needed to know what is ahead
pub record TakesNeeded (old : Reader) (before : Option Files) (new : Reader) (now : Option Files) : Type 0 where
  pub more : List ℕ
  pub moves : Moves old.ended before new.ended now more
  pub needed : AreNeeded (λ bytes. page_at (reader_is_later old) (reader_ahead old bytes)) more

-- no further page was read for this reason; `later` says whether a page came before, and `rest` is what is ahead.
-- Either the pages end, or one is refused, or a page is one too many, or a read failed, or memory ran out
abbrev pub EndsBy : Bool → Option (List ℕ) → PagesEnd → Type 0
EndsBy later rest why.End = IfSome rest (λ bytes. front later bytes ≡ Ends End)
EndsBy later rest why.Trailing = IfSome rest (λ bytes. front later bytes ≡ Ends Trailing)
EndsBy later rest why.TooMany = (raw : Raw) × (used : ℕ) × IfSome rest (λ bytes. front later bytes ≡ Page raw used)
EndsBy later rest (why.Fault f) = IfSome rest (λ bytes. IfSays (cause_of_fault f) (λ ending. front later bytes ≡ Ends ending))

-- the status of a run that ends with the pages of a file that end so; at Done the run goes on
abbrev pub status_of : PagesEnd → Status
status_of why.End = status.Done
status_of why.Trailing = status.Done
status_of (why.Fault fault.ReadFault) = status.Unread
status_of (why.Fault fault.NoMemory) = status.OutOfMemory
status_of end = status.Refused

-- how the inputs' count of faults moves if reading pages ends so: it rises if a read failed, it may rise if memory ran
-- out, and it stays otherwise
abbrev pub FaultsBy : PagesEnd → ℕ → ℕ → Type 0
FaultsBy (why.Fault fault.ReadFault) before now = Rose before now
FaultsBy (why.Fault fault.NoMemory) before now = Unit {0}
FaultsBy end before now = now ≡ before

-- a file is open, nothing of it is left if a read returned nothing, and the reader isn't over
pub record CanRead (reader : Reader) (source : Source) : Type 0 where
  pub opened : source.is_opened ≡ true
  pub at_end : reader.ended ≡ true → AtEnd source.files
  pub going_on : reader.over ≡ false
  pub room : reader.pages < 4294967295

-- reading pages ended for this reason, which is what is ahead; after a failed read it is so by the end of what was
-- taken; and the count of faults moved accordingly
pub record EndsReading (end : PagesEnd) (old : Reader) (before : Source) (new : Reader) (now : Source) : Type 0 where
  pub ends : EndsBy (reader_is_later old) (ahead old before.files) end
  pub read_fault : end ≡ why.Fault fault.ReadFault → ReadFails old before.files new now.files
  pub faults : FaultsBy end before.faults now.faults

-- the next page was read, and the reader can read on; or no page was read, for this reason
abbrev pub Answered : Result Pixels PagesEnd → Manner → Reader → Source → Reader → Source → Type 0
Answered (Ok page) manner old before new now =
    ReadsPage manner old before.files page new now.files × IsPage page × (now.faults ≡ before.faults)
    × (now.is_opened ≡ true) × (new.ended ≡ true → AtEnd now.files)
Answered (Err end) manner old before new now = EndsReading end old before new now × (end ≢ why.TooMany)

-- bytes of the open file were taken, as far as they are needed to know what is ahead, and no file was opened
pub record TakesBytes (old : Reader) (before : Source) (new : Reader) (now : Source) : Type 0 where
  pub needed : TakesNeeded old before.files new now.files
  pub openings : now.openings ≡ before.openings

-- no file was opened: the open one is the same as before, and the files hold what they held
pub record OpensNoFile (old new : Source) : Type 0 where
  pub openings : new.openings ≡ old.openings
  pub name : opened_name new.files ≡ opened_name old.files
  pub contents : told_contents new.files ≡ told_contents old.files

-- what is held waits for a page of a file, after the given number of earlier ones, and messages can be reported
pub record CanHold {A B : Type 0} (of_outs : SinkGhosts A) (of_errs : SinkGhosts B) (b : Binding) (size pages : ℕ) (desk : Desk A B) (held : List Held) : Type 0 where
  pub waits : Waits b size pages (of_outs.is_ready desk.outs.now) held
  pub ready : of_errs.is_ready desk.errs.now ≡ true

-- a file was opened, and nothing of it is read yet
pub record IsAtStart (reader : Reader) (source : Source) : Type 0 where
  pub opened : source.is_opened ≡ true
  pub fresh : reader ≡ at_start

-- the file of this name was asked for: it is the open one, if one is open and known; and the files hold what they held
pub record AsksFor (name : List ℕ) (old new : Source) : Type 0 where
  pub one_more : new.openings ≡ next_count old.openings
  pub named : IfSome (opened_name new.files) (λ opened. opened ≡ name)
  pub contents : told_contents new.files ≡ told_contents old.files

-- a read failed after these pages, and the bytes of the open file after those that were taken are unread
pub record HasUnread (raws : List Raw) (before now : Option Files) : Type 0 where
  pub taken : List ℕ
  pub stops : StopsReading taken raws
  pub told : IfSome (unread before) (λ bytes. (rest : List ℕ) × (bytes ≡ taken ++ rest) × (unread now ≡ Some rest))

-- k pages were read, after what was made before, and then reading ended so; of what was held before and these pages,
-- the first are carried out, and the others are held
pub record Converts (size : ℕ) (manner : Manner) (base : List ℕ) (past : Past) (before now : Option Files) (held held_now : List Held) (old new : Sinks) (k : ℕ) (end : PagesEnd) : Type 0 where
  pub raws : List Raw
  pub texts : List (List ℕ)
  pub count : k ≡ length raws
  pub few : k + past.pages ≤ most_pages
  pub converted : AreConverted manner raws texts
  pub rest : Option (List ℕ)
  pub begins : IfSome (unread before) (λ all. (left : List ℕ) × (rest ≡ Some left) × BeginsWith false all raws left)
  pub ends : EndsBy (is_later false raws) rest end
  pub full : end ≡ why.TooMany → most_pages ≤ k + past.pages
  pub near : IfSome (unread before) (λ all. (left : List ℕ) × (unread now ≡ Some left) × ReadsNear all raws left)
  pub unread : end ≡ why.Fault fault.ReadFault → HasUnread raws before now
  pub holds : (first : List Item) → AreHeld manner.binding manner.belongs held first → Holds manner.binding size manner.belongs (first ++ text_items manner base past 0 texts) held_now old new

-- a document couldn't be written, after whole batches; the items hold at most one more batch
pub record IsInPart (size : ℕ) (items : List Item) (old new : Sinks) : Type 0 where
  pub unwritten : IsUnwritten items old new
  pub batches : ℕ
  pub behind : batches * size ≤ page_count unwritten.before
  pub most : page_count items < batches * size + size

-- a document of the last batch couldn't be written: the items are whole batches
pub record IsInBatch (size : ℕ) (items : List Item) (old new : Sinks) : Type 0 where
  pub unwritten : IsUnwritten items old new
  pub batches : ℕ
  pub behind : batches * size ≤ page_count unwritten.before
  pub within : page_count unwritten.before < page_count items
  pub full : page_count items ≡ batches * size + size

-- memory ran out after whole batches; the items hold at most one more batch
pub record RunsOutIn (size : ℕ) (items : List Item) (old new : Sinks) : Type 0 where
  pub out : IsOutOfMemory items old new
  pub batches : ℕ
  pub whole : page_count out.before ≡ batches * size
  pub most : page_count items ≤ batches * size + size

-- memory ran out in a file, after these first items: whole batches are carried out, and at most one more batch was
-- read
pub record LosesWithin (size : ℕ) (first : List Item) (order : Order) (past : Past) (source source_now : Source) (old new : Sinks) : Type 0 where
  pub items : List Item
  pub are : AreAllItems order past items
  pub out : IsOutOfMemory (first ++ items) old new
  pub batches : ℕ
  pub whole : page_count out.before ≡ batches * size
  pub reads : ReadsAtMost (page_count out.before + size) first order past source source_now

-- some pages were read, after what was made before; what was held before and these pages were carried out as far as
-- the status says. If a part couldn't be written, it belongs to a batch that ends with these pages, and at most 65,536
-- bytes after them were taken.
pub record Halts (s : Status) (size : ℕ) (manner : Manner) (base : List ℕ) (past : Past) (before now : Option Files) (held : List Held) (old new : Sinks) : Type 0 where
  pub raws : List Raw
  pub texts : List (List ℕ)
  pub few : length raws + past.pages ≤ most_pages
  pub converted : AreConverted manner raws texts
  pub begins : IfSome (unread before) (λ all. (left : List ℕ) × BeginsWith false all raws left)
  pub ended : (first : List Item) → AreHeld manner.binding manner.belongs held first → HasEnded s (first ++ text_items manner base past 0 texts) old new
  pub some : raws ≢ []
  pub in_batch : s ≡ status.Unwritten → (first : List Item) → AreHeld manner.binding manner.belongs held first → IsInBatch size (first ++ text_items manner base past 0 texts) old new
  pub in_memory : s ≡ status.OutOfMemory → (first : List Item) → AreHeld manner.binding manner.belongs held first → RunsOutIn size (first ++ text_items manner base past 0 texts) old new
  pub near : IfSome (unread before) (λ all. (behind : List ℕ) × (rest : List ℕ) × LeavesBehind false all raws behind × (unread now ≡ Some rest) × (length behind ≤ length rest + 65536))

-- reading pages ended: with the file's pages, or within a batch that couldn't be carried out
abbrev pub EndsPages : Result Converted Status → ℕ → Manner → List ℕ → Past → Option Files → Option Files → List Held → List Held → Sinks → Sinks → Type 0
EndsPages (Ok converted) size manner base past before now held held_now old new =
    Converts size manner base past before now held held_now old new converted.pages converted.end
EndsPages (Err s) size manner base past before now held held_now old new = IsHalt s × Halts s size manner base past before now held old new

-- the items at the end of the file of this name, if its k pages end so and the run goes on; its documents have this
-- base name
abbrev pub items_at_end : Manner → List ℕ → List ℕ → Past → PagesEnd → ℕ → List Item
items_at_end manner name base past why.End k = end_items manner.binding (next_name base past.made) k []
items_at_end manner name base past why.Trailing k = end_items manner.binding (next_name base past.made) k (trailing_line name k ∷ [])
items_at_end manner name base past end k = []

-- the message with which a run ends after the pages of the file of this name, k of which were read
abbrev pub end_message : List ℕ → PagesEnd → ℕ → List ℕ
end_message name (why.Fault f) k = page_line name (k + 1) (fault_text f)
end_message name why.TooMany k = page_line name (k + 1) too_many
end_message name end k = []

-- the run ends with the pages of a file: these items, which were held, are carried out, and the message is reported;
-- or the items are carried out as far as the status says
abbrev pub EndsWithFile : List ℕ → PagesEnd → ℕ → Status → List Item → Sinks → Sinks → Type 0
EndsWithFile name end k s items old new =
    ((s ≡ status_of end) × (s ≢ status.Done) × (s ≢ status.OutOfMemory) × AreCarriedOut items (end_message name end k ∷ []) old new)
    ⊎ (((s ≡ status.Unwritten) ⊎ (s ≡ status.OutOfMemory)) × HasEnded s items old new)

-- memory ran out before any of the items were carried out, whichever they are
abbrev pub RunsOut : Status → Sinks → Sinks → Type 0
RunsOut s old new = (s ≡ status.OutOfMemory) × ((items : List Item) → HasEnded status.OutOfMemory items old new)

-- how a call ended that had to hold these items after those of what was held, whichever those are: they are carried
-- out or held; or memory ran out
abbrev pub EndsHeld : Result Unit Status → Manner → ℕ → List Item → List Held → List Held → Sinks → Sinks → Type 0
EndsHeld (Ok done) manner size more held held_now old new =
    (first : List Item) → AreHeld manner.binding manner.belongs held first
    → Holds manner.binding size manner.belongs (first ++ more) held_now old new
EndsHeld (Err s) manner size more held held_now old new = RunsOut s old new

-- nothing follows, and this was made so far
abbrev pub EndsWith : Past → Rest
EndsWith past past_now items = (past_now ≡ past) × (items ≡ [])

-- these are the items of the file of this name, and the run goes on after them; of what was held before and these
-- items, the first are carried out, and the others are held
pub record ConvertsFile (size : ℕ) (contents : Option Contents) (manner : Manner) (name : List ℕ) (past past_now : Past) (held held_now : List Held) (old new : Sinks) : Type 0 where
  pub items : List Item
  pub are : AreItems contents manner (EndsWith past_now) (name ∷ []) past items
  pub holds : (first : List Item) → AreHeld manner.binding manner.belongs held first → Holds manner.binding size manner.belongs (first ++ items) held_now old new

-- the end of the pages of the file of this name, k of which were read, is held after these items, and the run goes on;
-- or the run ends there
abbrev pub EndsWithPages : Result Unit Status → ℕ → Manner → List ℕ → List ℕ → Past → PagesEnd → ℕ → List Item → List Held → Sinks → Sinks → Type 0
EndsWithPages (Ok done) size manner name base past end k items held_now old new =
    Holds manner.binding size manner.belongs (items ++ items_at_end manner name base past end k) held_now old new
EndsWithPages (Err s) size manner name base past end k items held_now old new = EndsWithFile name end k s items old new

-- the status of a run that ends with the pages of a file that end so: it is the status of that end, or what was held
-- couldn't be carried out; if that couldn't be written, there was something to report about the file
pub record EndsBecause (end : PagesEnd) (s : Status) : Type 0 where
  pub which : (s ≡ status_of end) ⊎ IsHalt s
  pub unwritten : s ≡ status.Unwritten → (status_of end ≡ status.Refused) ⊎ (status_of end ≡ status.Unread)

-- the run goes on after the pages of a file that end so, or it ends there
abbrev pub GoesOnAfter : Result Unit Status → PagesEnd → Type 0
GoesOnAfter (Ok done) end = status_of end ≡ status.Done
GoesOnAfter (Err s) end = EndsBecause end s

-- a file was converted: its items are carried out or held, its documents are counted, and it is read no farther than
-- decides how its pages end. Or the run ends there, whatever files come after it and whichever items are those of what
-- was held. If a document couldn't be written, no more was read than its batch; if memory ran out, no more than one
-- batch after what is carried out
abbrev pub EndsFile : Result Unit Status → ℕ → Manner → List ℕ → Past → Past → List Held → List Held → Source → Source → Sinks → Sinks → Type 0
EndsFile (Ok done) size manner name past past_now held held_now source source_now old new =
    ConvertsFile size (told_contents source.files) manner name past past_now held held_now old new × EndsNear (told_contents source.files) name source_now
EndsFile (Err s) size manner name past past_now held held_now source source_now old new =
    (names : List (List ℕ)) (first : List Item) → AreHeld manner.binding manner.belongs held first
    → IsOutcomeBehind s first (order_of manner (name ∷ names) source) past source source_now old new
    × (s ≡ status.Unwritten → IsOnePassBehind size first (order_of manner (name ∷ names) source) past source source_now old new)
    × (s ≡ status.OutOfMemory → LosesWithin size first (order_of manner (name ∷ names) source) past source source_now old new)
