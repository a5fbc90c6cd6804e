-- What a run of the program has done.
use Rattle.std.specs.Prelude.{◌≡◌, ℕ, ◌<◌, ◌≤◌, ◌⊎◌, Bool, true, false, List, ◌++◌, codes, length, [], get_or, ◌+◌, ◌*◌, take, Option}
use Rattle.pt_core.specs.Counts.{Rose, next_count}
use Rattle.pt_core.specs.Documents.{IsCutOff, with_open, Documents, with_bytes}
use Rattle.pt_core.specs.Files.{Lacks}
use Rattle.bitmap_input.specs.Cut.{Kind, is_by_end}
use Rattle.bitmap_input.specs.Cut.FileEnd.{Refused}
use Rattle.bitmap_input.specs.Cut.Cut.{Stops, Takes}
use Rattle.bitmap_input.specs.FaultText.{kind_text}
use Rattle.mkbitmap_run.specs.PageHeader.{page_header, PageHeader}
use Rattle.run_output.specs.Messages.{file_line, file_page_line, program_line}
use Rattle.run_output.specs.Names.{dash}
use Rattle.run_output.specs.Told.{AllWent, BrokeOff, IsMessage, Sinks, Source}
use Rattle.small_program.specs.Input.{HasTaken, TellsInput}
use Rattle.small_program.specs.ProgramRun.{FailsInput, LeavesInput, OnlySays, PutsText, TakesInput, Writes}
use Rattle.run_output.specs.declared.status.Status.{Status}
use Rattle.run_output.specs.declared.status.Status.TheVariants as status
use Rattle.mkbitmap_words.specs.FilterAsked.{IsFilterAsked}
use Rattle.mkbitmap_words.specs.declared.ask.FilterAsk.{FilterAsk}
use Rattle.mkbitmap_words.specs.declared.ask.FilterAsk.TheVariants.{Help, Page}
use Rattle.mkbitmap_words.specs.declared.setup.Setup.{Setup}
use Rattle.mkbitmap_run.specs.Result.{result_text, result_head, result_row, result_rows}
use Rattle.mkbitmap_run.specs.Rows.{LeavesRows, ReachesNear, cut_row, fits_result, page_ending, settled_rows, standing}
use Rattle.mkbitmap.specs.Box.{Gray}
use Rattle.mkbitmap.specs.Follows.{IsRow}
use Rattle.mkbitmap.specs.Enlarged.{need}

-- the program's name
abbrev pub filter_name : List ℕ
filter_name = codes "mkbitmap"

-- the text about how the program is used
abbrev pub filter_usage : List ℕ
filter_usage = codes "usage: mkbitmap [--box R] [--times N] [--level D]\n"

-- a message about the page
abbrev pub page_says : List ℕ → List ℕ
page_says text = file_page_line filter_name dash 1 text

-- the document is left open with this text, no call of the outputs failed, and this message was written
pub record LeavesOpen (text message : List ℕ) (old new : Sinks) : Type 0 where
  pub documents : new.outs.documents ≡ with_open old.outs.documents dash text
  pub still_open : new.is_open ≡ true
  pub went : AllWent old.outs new.outs
  pub says : IsMessage message old.errs new.errs

-- these bytes begin with the header of a page, followed by `rest`, and the result isn't too large
pub record HasHead (setup : Setup) (bytes : List ℕ) (header : PageHeader) (rest : List ℕ) : Type 0 where
  pub by_end : Bool
  pub head : page_header bytes ≡ Takes by_end header rest
  pub fits : fits_result setup header.width header.height ≡ true

-- the rows of a page that follow its header
abbrev pub rows_behind : PageHeader → List ℕ → List (List ℕ)
rows_behind header rest = standing (cut_row header) header.height rest

-- the page is whole, and its result was written whole
pub record WritesResult (setup : Setup) (bytes : List ℕ) (old new : Sinks) : Type 0 where
  pub header : PageHeader
  pub rest : List ℕ
  pub head : HasHead setup bytes header rest
  pub all : length (rows_behind header rest) ≡ header.height
  pub writes : Writes (result_text setup header (rows_behind header rest)) old new

-- the page's header is refused, or its result is too large
pub record RefusesHead (setup : Setup) (bytes : List ℕ) (old new : Sinks) : Type 0 where
  pub why : List ℕ
  pub cause : ((by_end : Bool) × (kind : Kind) × (page_header bytes ≡ Stops by_end (Refused kind)) × (why ≡ kind_text kind))
      ⊎ ((by_end : Bool) × (header : PageHeader) × (rest : List ℕ) × (page_header bytes ≡ Takes by_end header rest)
      × (fits_result setup header.width header.height ≡ false) × (why ≡ codes "result too large"))
  pub says : OnlySays (page_says why) old new

-- a row of the page is refused; the document is open with the rows of the result for which the rows before it suffice
pub record RefusesRow (setup : Setup) (bytes : List ℕ) (old new : Sinks) : Type 0 where
  pub header : PageHeader
  pub rest : List ℕ
  pub left : List ℕ
  pub by_end : Bool
  pub kind : Kind
  pub head : HasHead setup bytes header rest
  pub few : length (rows_behind header rest) < header.height
  pub rows : LeavesRows true (cut_row header) rest (rows_behind header rest) left
  pub refused : cut_row header left ≡ Stops by_end (Refused kind)
  pub leaves : LeavesOpen (result_text setup header (rows_behind header rest)) (page_says (kind_text kind)) old new

-- standard input couldn't be opened or is known to be missing, and no file is open
pub record CannotOpen (source source_now : Source) : Type 0 where
  pub fails : FailsInput source source_now
  pub closed : source_now.is_opened ≡ false

-- standard input was opened once and still is open, a read of it failed, and these bytes were read before
pub record StopsTaking (taken : List ℕ) (source source_now : Source) : Type 0 where
  pub opened : source_now.openings ≡ next_count source.openings
  pub still_opened : source_now.is_opened ≡ true
  pub rose : Rose source.faults source_now.faults
  pub has : HasTaken source.files source_now.files taken

-- a read failed within a row of the page, which the bytes read before don't decide; the document is open with the rows
-- of the result for which the rows before it suffice, all of them settled
pub record StopsInRow (setup : Setup) (taken : List ℕ) (old new : Sinks) : Type 0 where
  pub header : PageHeader
  pub rest : List ℕ
  pub left : List ℕ
  pub head : page_header taken ≡ Takes false header rest
  pub fits : fits_result setup header.width header.height ≡ true
  pub few : length (settled_rows (cut_row header) header.height rest) < header.height
  pub rows : LeavesRows false (cut_row header) rest (settled_rows (cut_row header) header.height rest) left
  pub undecided : is_by_end (cut_row header left) ≡ true
  pub leaves : LeavesOpen (result_text setup header (settled_rows (cut_row header) header.height rest)) (page_says (codes "read fault")) old new

-- the bytes that were read after the header begin with these rows, and at most 65,536 further bytes were read
pub record ReadsNearRows (header : PageHeader) (taken : List ℕ) (rows : List (List ℕ)) : Type 0 where
  pub ended : Bool
  pub by_end : Bool
  pub rest : List ℕ
  pub left : List ℕ
  pub head : page_header taken ≡ Takes by_end header rest
  pub leaves : LeavesRows ended (cut_row header) rest rows left
  pub near : length left ≤ 65536

-- the bytes that were read after the header begin with these rows, and at most 65,536 bytes were read after a prefix
-- that doesn't decide the next row
pub record ReadsNearNext (header : PageHeader) (taken : List ℕ) (rows : List (List ℕ)) : Type 0 where
  pub ended : Bool
  pub by_end : Bool
  pub rest : List ℕ
  pub left : List ℕ
  pub head : page_header taken ≡ Takes by_end header rest
  pub leaves : LeavesRows ended (cut_row header) rest rows left
  pub near : ReachesNear (cut_row header) left

-- P holds for the bytes that were read of standard input
pub record HasTakenSo (P : List ℕ → Type 0) (source source_now : Source) : Type 0 where
  pub taken : List ℕ
  pub has : HasTaken source.files source_now.files taken
  pub so : P taken

-- a page with this header begins with these rows
pub record HasFirstRows (header : PageHeader) (rows : List (List ℕ)) (page : Gray) : Type 0 where
  pub width : page.width ≡ header.width
  pub height : page.height ≡ header.height
  pub maxval : page.maxval ≡ header.maxval
  pub bright : (x y : ℕ) → page.sample x y ≤ page.maxval
  pub row : (y : ℕ) → y < length rows → IsRow page y (get_or rows y [])

-- all rows of the result above row Y
abbrev pub rows_above : Setup → Gray → ℕ → List ℕ
rows_above setup page Y = result_rows setup page page.height Y

-- how many rows of the page row Y of the result needs
abbrev pub need_of : Setup → PageHeader → ℕ → ℕ
need_of setup header Y = need header.height setup.radius setup.times Y + 1

-- for every page that begins with these rows, all rows above row Y and a prefix of row Y were appended to the open
-- document
abbrev pub PutsFront : Setup → PageHeader → List (List ℕ) → ℕ → Option Documents → Option Documents → Type 0
PutsFront setup header rows Y old new =
    (page : Gray) → HasFirstRows header rows page → (n : ℕ) × (n ≤ length (result_row setup page Y))
    × (new ≡ with_bytes old (rows_above setup page Y ++ take n (result_row setup page Y)))

-- the document was cut off: within its beginning, before a row of the page was read; or within row Y, after only the
-- rows that row Y needs were read
abbrev pub IsCutAt : Setup → PageHeader → List (List ℕ) → Option Documents → Option Documents → Type 0
IsCutAt setup header rows old new =
    ((rows ≡ []) × IsCutOff old new dash (result_head setup header))
    ⊎ ((Y : ℕ) × (Y < setup.times * header.height) × (length rows ≡ need_of setup header Y)
    × PutsFront setup header rows Y (with_open old dash (result_head setup header)) new)

-- a call of the outputs failed: the document is cut off, and only the rows of the page that its last row needs were
-- read
pub record CutsResult (setup : Setup) (source source_now : Source) (old new : Sinks) : Type 0 where
  pub taken : List ℕ
  pub more : List ℕ
  pub header : PageHeader
  pub rest : List ℕ
  pub read : List (List ℕ)
  pub takes : TakesInput (taken ++ more) source source_now
  pub has : HasTaken source.files source_now.files taken
  pub head : HasHead setup (taken ++ more) header rest
  pub cut : IsCutOff old.outs.documents new.outs.documents dash (result_text setup header (rows_behind header rest))
  pub place : IsCutAt setup header read old.outs.documents new.outs.documents
  pub near : ReadsNearRows header taken read
  pub broke : BrokeOff old.outs new.outs
  pub says : IsMessage (file_line filter_name dash (codes "write fault")) old.errs new.errs

-- what a run has done with the page on standard input if it ends with this status
abbrev pub HasFiltered : Setup → Status → Source → Source → Sinks → Sinks → Type 0
HasFiltered setup status.Done source source_now old new =
    (bytes : List ℕ) × TakesInput bytes source source_now × (whole : WritesResult setup bytes old new)
    × HasTakenSo (λ taken. ReadsNearRows whole.header taken (rows_behind whole.header whole.rest)) source source_now
HasFiltered setup status.Wrong source source_now old new = ⊥
HasFiltered setup status.BadWords source source_now old new = ⊥
HasFiltered setup status.Refused source source_now old new =
    (bytes : List ℕ) × TakesInput bytes source source_now
    × ((RefusesHead setup bytes old new × HasTakenSo (ReachesNear page_header) source source_now)
    ⊎ ((refuses : RefusesRow setup bytes old new)
    × HasTakenSo (λ taken. ReadsNearNext refuses.header taken (rows_behind refuses.header refuses.rest)) source source_now))
HasFiltered setup status.Unread source source_now old new =
    (CannotOpen source source_now × OnlySays (file_line filter_name dash (codes "cannot be opened")) old new)
    ⊎ ((taken : List ℕ) × StopsTaking taken source source_now
    × (((is_by_end (page_header taken) ≡ true) × OnlySays (page_says (codes "read fault")) old new)
    ⊎ StopsInRow setup taken old new))
HasFiltered setup status.Unwritten source source_now old new = CutsResult setup source source_now old new
HasFiltered setup status.OutOfMemory source source_now old new =
    LeavesInput source source_now × OnlySays (program_line filter_name (codes "out of memory")) old new

-- all that a run does with the page on standard input
pub record IsPageRun (setup : Setup) (end : Status) (source source_now : Source) (old new : Sinks) : Type 0 where
  pub outcome : HasFiltered setup end source source_now old new
  -- if standard input is known to be missing, the run ends as unread; if it is known to be there and no device failed,
  -- the run ends as its bytes decide or runs out of memory
  pub missing : Lacks source.files dash → end ≡ status.Unread
  pub complete : (bytes : List ℕ) → TellsInput source.files bytes → (Rose source.faults source_now.faults → ⊥)
      → (Rose old.outs.faults new.outs.faults → ⊥) → (end ≡ page_ending setup bytes) ⊎ (end ≡ status.OutOfMemory)
  -- a fault of the outputs shows in the status
  pub unwritten : old.outs.faults < new.outs.faults → end ≡ status.Unwritten

-- all that a run does that is started with these arguments: they ask for help or for a page, or the program doesn't
-- accept them, or memory ran out before they were read
abbrev pub IsFilterRun : List (List ℕ) → Status → Source → Source → Sinks → Sinks → Type 0
IsFilterRun words end source source_now old new =
    (IsFilterAsked words Help × (source_now ≡ source) × PutsText filter_name status.Done filter_usage end old new)
    ⊎ ((setup : Setup) × IsFilterAsked words (Page setup) × IsPageRun setup end source source_now old new)
    ⊎ ((end ≡ status.BadWords) × ((ask : FilterAsk) → IsFilterAsked words ask → ⊥) × (source_now ≡ source)
    × OnlySays (program_line filter_name (codes "bad arguments, see mkbitmap -h")) old new)
    ⊎ ((end ≡ status.OutOfMemory) × (source_now ≡ source) × OnlySays (program_line filter_name (codes "out of memory")) old new)
