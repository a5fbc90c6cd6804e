-- A document of PostScript paints its trace's shapes, and its head tells the page's box.
use Rattle.std.proofs.Common.{◌≡◌, ℕ, ◌^◌, ◌<◌, ◌≤◌, [], ◌∷◌, ◌++◌, codes, refl, ap, ◌∙◌, append_assoc, Some, arith}
use Rattle.std.specs.Prelude.{option_and_then}
use Rattle.pt_core.specs.declared.trace.Trace.{Trace}
use Rattle.eps_backend.specs.EpsText.{comments_text, drawing_text, eps_text, ps_page_text}
use Rattle.document_readings.specs.Places.{AreInReach}
use Rattle.document_readings.specs.PsReading.{execute_all, machine_behind, painted_by, ps_painted}
use Rattle.document_readings.specs.PsWords.{showpage}
use Rattle.document_readings.specs.TraceShapes.{filled_shapes}
use Rattle.document_readings.proofs.PsPainting.{program_done}
use Rattle.document_readings.proofs.PsText.{comments_read, program_read}

-- a page of a document, and the whole document of one page
pub page_painted : (unit : ℕ) (trace : Trace) → 1 ≤ unit → unit ≤ 1000 → AreInReach trace.outlines
    → ps_painted (ps_page_text unit trace) ≡ Some (record { pages = filled_shapes unit trace ∷ []; unshown = [] })
page_painted unit trace some few near =
    ap (λ o. option_and_then (λ m. painted_by m.operands (m.graphics).pen m.saved m) (option_and_then (execute_all (machine_behind [])) o)) (program_read unit few trace (codes "showpage\n") (showpage ∷ []) near refl)
    ∙ ap (option_and_then (λ m. painted_by m.operands (m.graphics).pen m.saved m)) (program_done unit few some trace [] (showpage ∷ []))

pub document_painted : (unit : ℕ) (trace : Trace) → 1 ≤ unit → unit ≤ 1000 → trace.width < 2 ^ 32 → trace.height < 2 ^ 32 → AreInReach trace.outlines
    → ps_painted (eps_text unit trace) ≡ Some (record { pages = []; unshown = filled_shapes unit trace })
document_painted unit trace some few wide high near =
    ap ps_painted (append_assoc (comments_text trace.width trace.height) (drawing_text unit trace) (codes "%%EOF\n"))
    ∙ ap (λ o. option_and_then (λ m. painted_by m.operands (m.graphics).pen m.saved m) (option_and_then (execute_all (machine_behind [])) o))
    (comments_read trace.width trace.height (drawing_text unit trace ++ codes "%%EOF\n") (omega arith) (omega arith) ∙ program_read unit few trace (codes "%%EOF\n") [] near refl)
    ∙ ap (option_and_then (λ m. painted_by m.operands (m.graphics).pen m.saved m)) (program_done unit few some trace [] [])
