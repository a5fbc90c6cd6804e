-- What was written whole, and what a reader of pages finds in it.
use Rattle.std.specs.Prelude.{◌≡◌, ℕ, false, List, length}
use Rattle.bit_image.specs.Page.{IsPage, Page}
use Rattle.bit_image.specs.PbmText.{pbm_text}
use Rattle.bitmap_input.specs.Front.{front}
use Rattle.bitmap_input.specs.Front.Answer.{Page as PageAnswer}
use Rattle.bitmap_input.specs.Raw.{IsShown, Raw}
use Rattle.run_output.specs.Told.{Sinks}
use Rattle.small_program.specs.ProgramRun.{Writes}
use Rattle.mkbitmap_words.specs.declared.setup.Setup.{Setup}
use Rattle.mkbitmap_run.specs.PageHeader.{PageHeader}
use Rattle.mkbitmap_run.specs.FilterRun.{rows_behind}
use Rattle.mkbitmap_run.specs.Result.{result_page, scan_of}

-- the result of filtering a page with this header and these bytes after it
abbrev pub filtered_page : Setup → PageHeader → List ℕ → Page
filtered_page setup header rest = result_page setup (scan_of header (rows_behind header rest))

-- the raw PBM text of this page was written whole; a reader of pages finds one page in it, which takes all of its bytes
-- and is this page at every level
pub record WritesPage (page : Page) (old new : Sinks) : Type 0 where
  pub is_page : IsPage page
  pub writes : Writes (pbm_text page) old new
  pub raw : Raw
  pub found : front false (pbm_text page) ≡ PageAnswer raw (length (pbm_text page))
  pub shown : (level : ℕ) → IsShown level false page raw
