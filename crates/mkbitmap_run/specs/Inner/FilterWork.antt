-- What a page in progress holds and has done, between two rows of the result.
use Rattle.std.specs.Prelude.{◌≡◌, ℕ, ◌+◌, ◌*◌, ◌<◌, ◌≤◌, true, false, List, [], ◌++◌, length, min, Option, Result, Ok, Err}
use Rattle.pt_core.specs.Files.{Files}
use Rattle.pt_core.specs.declared.limits.TheConstants.{LONGEST_SIDE}
use Rattle.bitmap_input.specs.Cut.FileEnd.{End, Trailing, Refused}
use Rattle.bitmap_input.specs.GrayReader.{FailsToRead, GraySource, Refuses}
use Rattle.bitmap_input.specs.Inner.Reading.{CountsBy}
use Rattle.bitmap_input.specs.Reading.{AtEnd, Cause, Moves, cause_of_fault}
use Rattle.bitmap_input.specs.Reading.Cause.{Says, Device, Memory}
use Rattle.bitmap_input.specs.declared.fault.InFault.{InFault}
use Rattle.bitmap_input.specs.declared.gray_reader.GrayHead.{GrayHead}
use Rattle.mkbitmap_run.specs.PageHeader.{PageHeader}
use Rattle.mkbitmap.specs.Box.{Gray}
use Rattle.mkbitmap.specs.Enlarged.{after_of, need}
use Rattle.mkbitmap.specs.Filtering.{Filtering}
use Rattle.mkbitmap.specs.Follows.{Follows}
use Rattle.run_output.specs.Told.{Source}
use Rattle.mkbitmap_words.specs.declared.setup.Setup.{Setup}
use Rattle.mkbitmap_run.specs.Result.{result_head}
use Rattle.mkbitmap_run.specs.Rows.{LeavesRows, cut_row}
use Rattle.mkbitmap_run.specs.FilterRun.{HasFirstRows, need_of}
use Rattle.mkbitmap_run.specs.declared.work.Work.{Work}

-- the header that a reader has read
abbrev pub header_of : GraySource → PageHeader
header_of reader = record { plain = reader.plain; width = reader.head.width; height = reader.head.height; maxval = reader.head.maxval }

-- the setup of a filter
abbrev pub setup_of : Filtering → Setup
setup_of f = record { radius = f.radius; times = f.times; level = f.level }

-- rows of the open file may be read: if the reader has found the end of the file, no byte is left, and the reader holds
-- at most 65,536 bytes
pub record MayRead (reader : GraySource) (source : Source) : Type 0 where
  pub opened : source.is_opened ≡ true
  pub at_end : reader.ended ≡ true → AtEnd source.files
  pub within : length reader.bytes ≤ 65536

-- rows may still be read of the file, and no other file was opened
pub record StaysOpened (reader : GraySource) (before now : Source) : Type 0 where
  pub reading : MayRead reader now
  pub openings : now.openings ≡ before.openings

-- how reads ended, by the inputs' count of faults: it rose if a read failed, and else it is unchanged
abbrev pub ReadsEnd : {X : Type 0} → Result X InFault → ℕ → ℕ → Type 0
ReadsEnd (Ok x) before now = now ≡ before
ReadsEnd (Err fault) before now = CountsBy (cause_of_fault fault) before now

-- a reader gave these rows: further bytes were read, and its bytes begin with these rows, whatever comes after them
pub record GivesRows (old : GraySource) (before : Option Files) (rows : List (List ℕ)) (new : GraySource) (now : Option Files) : Type 0 where
  pub more : List ℕ
  pub moves : Moves old.ended before new.ended now more
  pub leaves : (tail : List ℕ) → (new.ended ≡ true → tail ≡ [])
      → LeavesRows new.ended (cut_row (header_of old)) ((old.bytes ++ more) ++ tail) rows (new.bytes ++ tail)
  pub same_head : new.head ≡ old.head
  pub same_kind : new.plain ≡ old.plain
  pub given : new.given ≡ old.given + length rows

-- the reader, the filter and the buffer for a row are for the same page
pub record FitsWork (work : Work) : Type 0 where
  pub width : work.filter.width ≡ work.reader.head.width
  pub height : work.filter.height ≡ work.reader.head.height
  pub maxval : work.filter.maxval ≡ work.reader.head.maxval
  pub some_rows : 1 ≤ work.filter.height
  pub most_white : work.filter.maxval ≤ 65535
  pub some_times : 1 ≤ work.filter.times
  pub room : length work.row.items ≡ work.reader.head.width

-- the reader and the filter have gone through these rows of the page, and the filter took only rows that its boxes need
pub record IsAtWork (work : Work) (rows : List (List ℕ)) : Type 0 where
  pub fits : FitsWork work
  pub taken : work.filter.taken ≡ length rows
  pub given : work.reader.given ≡ length rows
  pub going_on : work.reader.failed ≡ false
  pub due : work.filter.taken ≤ min work.filter.height (work.filter.pairs + work.filter.radius + 1)
  pub enough : 1 ≤ work.filter.pairs → min work.filter.height (work.filter.pairs + work.filter.radius) ≤ work.filter.taken
  pub follows : (page : Gray) → HasFirstRows (header_of work.reader) rows page → Follows page work.filter

-- the reader and the filter are before the first row, and the document's beginning is prepared
pub record IsBeforeRows (work : Work) : Type 0 where
  pub at_work : IsAtWork work []
  pub none : work.filter.pairs ≡ 0
  pub head : work.head.items ≡ result_head (setup_of work.filter) (header_of work.reader)

-- writing the page can begin, with its first row
pub record CanBegin (work : Work) (source : Source) : Type 0 where
  pub reading : MayRead work.reader source
  pub start : IsBeforeRows work

-- the reader and the filter went through these further rows, with the same setup
pub record GoesAlong (old : Work) (before : Option Files) (next : List (List ℕ)) (new : Work) (now : Option Files) : Type 0 where
  pub gives : GivesRows old.reader before next new.reader now
  pub setup : setup_of new.filter ≡ setup_of old.filter
  pub along : (rows : List (List ℕ)) → IsAtWork old rows → IsAtWork new (rows ++ next)

-- row Y of the result can be written: only rows that it needs were read before
pub record CanPut (Y : ℕ) (work : Work) (source : Source) : Type 0 where
  pub reading : MayRead work.reader source
  pub rows : List (List ℕ)
  pub at_work : IsAtWork work rows
  pub row : Y < work.filter.times * work.reader.head.height
  pub behind : work.filter.pairs ≤ after_of work.filter.times Y + 1
  pub ahead : work.reader.given ≤ need_of (setup_of work.filter) (header_of work.reader) Y

-- exactly the rows that row Y of the result needs were read, and the filter has the two rows of reliefs between which
-- row Y lies
pub record GetsReady (Y : ℕ) (old : Work) (before : Option Files) (new : Work) (now : Option Files) : Type 0 where
  pub next : List (List ℕ)
  pub along : GoesAlong old before next new now
  pub pairs : new.filter.pairs ≡ after_of old.filter.times Y + 1
  pub read : new.reader.given ≡ need_of (setup_of old.filter) (header_of old.reader) Y

-- a header as the reader returns it
pub record IsGrayHead (head : GrayHead) : Type 0 where
  pub some_columns : 1 ≤ head.width
  pub most_columns : head.width ≤ LONGEST_SIDE
  pub some_rows : 1 ≤ head.height
  pub most_rows : head.height ≤ LONGEST_SIDE
  pub some_white : 1 ≤ head.maxval
  pub most_white : head.maxval ≤ 65535

-- a reader has read this header, and no row
pub record HasReadHead (head : GrayHead) (reader : GraySource) : Type 0 where
  pub in_range : IsGrayHead head
  pub is : reader.head ≡ head
  pub none_given : reader.given ≡ 0
  pub going_on : reader.failed ≡ false

-- the page of this reader is in progress with this setup, before its first row
pub record BeginsWork (setup : Setup) (reader : GraySource) (work : Work) : Type 0 where
  pub same_reader : work.reader ≡ reader
  pub same_setup : setup_of work.filter ≡ setup
  pub start : IsBeforeRows work

-- the next row couldn't be read, for this cause
abbrev pub StopsRow : Cause → GraySource → Option Files → GraySource → Option Files → Type 0
StopsRow (Says (Refused kind)) old before new now = Refuses (cut_row (header_of old)) kind old before new now
StopsRow (Says End) old before new now = ⊥
StopsRow (Says Trailing) old before new now = ⊥
StopsRow Device old before new now = FailsToRead (cut_row (header_of old)) old before new now
StopsRow Memory old before new now = ⊥

-- after some rows, at most `last`, the next one couldn't be read; the reader holds at most 65,536 bytes there
pub record StopsBehind (why : Cause) (last : ℕ) (old : GraySource) (before : Option Files) (new : GraySource) (now : Option Files) : Type 0 where
  pub rows : List (List ℕ)
  pub mid : GraySource
  pub at : Option Files
  pub gives : GivesRows old before rows mid at
  pub stops : StopsRow why mid at new now
  pub few : mid.given < mid.head.height
  pub early : mid.given ≤ last
  pub within : length mid.bytes ≤ 65536

-- after some rows, at most the ones that row Y of the result needs, the next one couldn't be read
abbrev pub StopsBefore : Cause → ℕ → Work → Option Files → GraySource → Option Files → Type 0
StopsBefore why Y old before new now =
    StopsBehind why (need old.reader.head.height old.filter.radius old.filter.times Y) old.reader before new now
