-- The text of the demo: a line of counts for each page.
use Rattle.std.specs.Prelude.{◌≡◌, ℕ, List, ◌++◌, codes, decimal, length, sum_by}
use Rattle.std.specs.List.{AllZip, concat}
use Rattle.pt_core.specs.declared.settings.Settings.{Settings}
use Rattle.pt_core.specs.declared.trace.Trace.{Trace}
use Rattle.bit_image.specs.Page.{Page}
use Rattle.page_trace.specs.Document.{IsDocument}
use Rattle.page_trace.specs.Trace.{IsTrace}
use Rattle.demo_pages.specs.Picture.{pages_from}

-- the line of a trace whose document has so many bytes: its paths, the segments of all their polygons, the
-- pieces of all their outlines, and the bytes
abbrev pub demo_line : Trace → ℕ → List ℕ
demo_line trace bytes =
    codes "paths " ++ decimal (length trace.paths)
    ++ codes " segments " ++ decimal (sum_by (λ polygon. length polygon.at) trace.polygons)
    ++ codes " curves " ++ decimal (sum_by (λ outline. length outline) trace.outlines)
    ++ codes " bytes " ++ decimal bytes ++ codes "\n"

-- the line is that of a page's trace and document
pub record IsDemoLine (settings : Settings) (page : Page) (line : List ℕ) : Type 0 where
  pub trace : Trace
  pub traced : IsTrace page settings trace
  pub document : List ℕ
  pub written : IsDocument page settings document
  pub counts : line ≡ demo_line trace (length document)

-- the text is the lines of so many pages, in order, where the generator starts from their number
pub record IsDemoText (pages : ℕ) (settings : Settings) (text : List ℕ) : Type 0 where
  pub lines : List (List ℕ)
  pub each : AllZip (IsDemoLine settings) (pages_from pages pages) lines
  pub joined : text ≡ concat lines
