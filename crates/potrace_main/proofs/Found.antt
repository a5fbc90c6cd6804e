-- There is a text of each number of pages.
use Rattle.std.proofs.Common.{ℕ, zero, suc, ◌+◌, ◌*◌, List, [], ◌∷◌, length, refl}
use Rattle.std.specs.List.{AllZip, concat}
use Rattle.bit_image.specs.Page.{IsPage, Page}
use Rattle.pt_core.specs.declared.settings.Settings.{Settings}
use Rattle.pt_core.specs.Needs.{CanWrite}
use Rattle.page_trace.proofs.Exists.{document_found, trace_found}
use Rattle.demo_pages.specs.declared.page.TheConstants.{BARS, RECTANGLES}
use Rattle.demo_pages.specs.Generator.{state_after}
use Rattle.potrace_main.specs.Demo.{IsDemoLine, IsDemoText, demo_line}
use Rattle.demo_pages.specs.Picture.{pages_from, picture_page}
use Rattle.demo_pages.proofs.Draws.{is_page}

line_found : (settings : Settings) (page : Page) → IsPage page → CanWrite settings → (line : List ℕ) × IsDemoLine settings page line
line_found settings page is can =
    let (trace, traced) = trace_found page settings is in
    let (document, written) = document_found settings.backend page settings is can in
    (demo_line trace (length document), record { trace = trace; traced = traced; document = document; written = written; counts = refl })

lines_found : (settings : Settings) → CanWrite settings → (n s : ℕ) → (lines : List (List ℕ)) × AllZip (IsDemoLine settings) (pages_from n s) lines
unfolding pages_from
lines_found settings can zero s = ([], tt)
lines_found settings can (suc n) s =
    let (line, is) = line_found settings (picture_page s) (is_page s) can in
    let (lines, are) = lines_found settings can n (state_after (4 * RECTANGLES + 3 * BARS) s) in
    (line ∷ lines, (is, are))

pub demo_found : (pages : ℕ) (settings : Settings) → CanWrite settings → (text : List ℕ) × IsDemoText pages settings text
demo_found pages settings can =
    let (lines, each) = lines_found settings can pages pages in
    (concat lines, record { lines = lines; each = each; joined = refl })
