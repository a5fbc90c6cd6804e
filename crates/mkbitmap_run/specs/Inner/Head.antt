-- What is known after the header of the page was read.
use Rattle.std.specs.Prelude.{◌≡◌, ℕ, Bool, true, List, [], ◌++◌, Option}
use Rattle.pt_core.specs.Counts.{next_count}
use Rattle.bitmap_input.specs.Cut.Cut.{Takes}
use Rattle.bitmap_input.specs.Cut.FileEnd.{End, Trailing, Refused}
use Rattle.bitmap_input.specs.GrayReader.{FailsToRead, GraySource, Refuses, gray_at_start}
use Rattle.bitmap_input.specs.GrayRows.{gray_header}
use Rattle.bitmap_input.specs.Reading.{Cause}
use Rattle.bitmap_input.specs.Reading.Cause.{Says, Device, Memory}
use Rattle.pt_core.specs.Files.{Files}
use Rattle.mkbitmap_run.specs.PageHeader.{page_header}
use Rattle.mkbitmap_run.specs.Rows.{ReachesNear}
use Rattle.run_output.specs.Told.{Source}
use Rattle.small_program.specs.Input.{HasTaken}
use Rattle.mkbitmap_run.specs.Inner.FilterWork.{header_of}

-- the header couldn't be read, for this cause
abbrev pub StopsHead : Cause → GraySource → Option Files → Option Files → Type 0
StopsHead (Says (Refused kind)) new before now = Refuses gray_header kind gray_at_start before new now
StopsHead (Says End) new before now = ⊥
StopsHead (Says Trailing) new before now = ⊥
StopsHead Device new before now = FailsToRead gray_header gray_at_start before new now
StopsHead Memory new before now = ⊥

-- standard input was opened once and no read failed; the bytes that were read begin with the reader's header, whatever
-- comes after them; and only the header and at most one block more were read
pub record StandsBehindHead (source : Source) (reader : GraySource) (source_now : Source) : Type 0 where
  pub opened : source_now.openings ≡ next_count source.openings
  pub steady : source_now.faults ≡ source.faults
  pub taken : List ℕ
  pub has : HasTaken source.files source_now.files taken
  pub near : ReachesNear page_header taken
  pub head : (tail : List ℕ) → (reader.ended ≡ true → tail ≡ [])
      → (e : Bool) × (e ≡ true → reader.ended ≡ true) × (page_header (taken ++ tail) ≡ Takes e (header_of reader) (reader.bytes ++ tail))
