-- The document of a file's pages is read as these pages.
use Rattle.std.proofs.Common.{◌≡◌, ℕ, suc, ◌^◌, ◌<◌, ◌≤◌, List, [], ◌∷◌, length, map, Some, refl, ap, sym, ◌∙◌, arith}
use Rattle.std.proofs.lemmas.List.Elements.{All-cons, All-head, All-nil, All-tail}
use Rattle.std.specs.Prelude.{All}
use Rattle.std.specs.List.{AllZip}
use Rattle.pt_core.specs.Needs.{CanDraw}
use Rattle.pt_core.specs.declared.settings.Backend.TheVariants as backends
use Rattle.pt_core.specs.declared.settings.Settings.{Settings}
use Rattle.pt_core.specs.declared.trace.Trace.{Trace}
use Rattle.bit_image.specs.Page.{Page, IsPage}
use Rattle.eps_backend.specs.EpsText.{ps_page_text}
use Rattle.run_output.specs.Made.{most_pages}
use Rattle.run_output.specs.Parts.{file_text}
use Rattle.page_trace.specs.Document.{IsDocument}
use Rattle.page_trace.specs.Trace.{IsTrace}
use Rattle.document_readings.specs.DscReading.{dsc_pages}
use Rattle.document_readings.specs.Places.{AreInReach}
use Rattle.document_readings.specs.PsReading.{ps_painted}
use Rattle.document_readings.specs.TraceShapes.{filled_shapes}
use Rattle.document_readings.proofs.DscDocuments.{files_pages}
use Rattle.document_readings.proofs.PsFiles.{file_painted}
use Rattle.page_readings.specs.AskedFor.{AskUnder}
use Rattle.page_readings.proofs.Pages.{document_by, given_by}
use Rattle.page_readings.proofs.Reach.{trace_in_reach}

-- the traces of pages, whose texts these are
record AreTraced (settings : Settings) (pages : List Page) (texts : List (List ℕ)) : Type 0 where
  traces : List Trace
  are : AllZip (λ (page : Page) (trace : Trace). IsTrace page settings trace) pages traces
  near : All (λ (trace : Trace). AreInReach trace.outlines) traces
  written : texts ≡ map (ps_page_text settings.unit) traces
  many : length traces ≡ length pages

pages_traced : (settings : Settings) (pages : List Page) (texts : List (List ℕ)) → settings.backend ≡ backends.Ps → All IsPage pages
    → AllZip (λ (page : Page) (text : List ℕ). IsDocument page settings text) pages texts → AreTraced settings pages texts
pages_traced settings [] [] set are_pages documents = record { traces = []; are = tt; near = All-nil (λ (trace : Trace). AreInReach trace.outlines); written = refl; many = refl }
pages_traced settings [] (text ∷ texts) set are_pages documents = absurd documents
pages_traced settings (page ∷ pages) [] set are_pages documents = absurd documents
pages_traced settings (page ∷ pages) (text ∷ texts) set are_pages documents =
    let found = document_by backends.Ps page settings text set documents.0 in
    let trace = found.0 in
    let is : IsTrace page settings trace = found.1 in
    let more = pages_traced settings pages texts set (All-tail IsPage page pages are_pages) documents.1 in
    record {
      traces = trace ∷ more.traces;
      are = (is, more.are);
      near = All-cons (λ (t : Trace). AreInReach t.outlines) trace more.traces (trace_in_reach page settings trace (All-head IsPage page pages are_pages) is) more.near;
      written = ap (λ t. t ∷ texts) found.2 ∙ ap (λ ts. ps_page_text settings.unit trace ∷ ts) more.written;
      many = ap suc more.many;
    }

pub file_shown : (words : List (List ℕ)) (settings : Settings) (pages : List Page) (texts : List (List ℕ)) → AskUnder words settings → settings.backend ≡ backends.Ps
    → All IsPage pages → length pages ≤ most_pages → AllZip (λ (page : Page) (text : List ℕ). IsDocument page settings text) pages texts
    → (traces : List Trace) × AllZip (λ (page : Page) (trace : Trace). IsTrace page settings trace) pages traces × (dsc_pages (file_text texts) ≡ Some texts)
    × (ps_painted (file_text texts) ≡ Some (record { pages = map (filled_shapes settings.unit) traces; unshown = [] }))
file_shown words settings pages texts under set are_pages few documents =
    let traced = pages_traced settings pages texts set are_pages documents in
    let can : CanDraw settings = given_by backends.Ps words settings under set in
    let small : length traced.traces < 2 ^ 64 = (let many = traced.many in omega arith) in (
      traced.traces,
      traced.are,
      ap (λ ts. dsc_pages (file_text ts)) traced.written ∙ files_pages settings.unit traced.traces can.most small traced.near ∙ ap Some (sym traced.written),
      ap (λ ts. ps_painted (file_text ts)) traced.written ∙ file_painted settings.unit traced.traces can.some can.most small traced.near,
    )
