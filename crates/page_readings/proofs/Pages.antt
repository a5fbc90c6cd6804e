-- A page's documents are read as its trace.
use Rattle.std.proofs.Common.{◌≡◌, ℕ, ◌^◌, ◌<◌, List, [], ◌∷◌, map, Some, ap, ◌∙◌, subst, arith}
use Rattle.pt_core.specs.Needs.{CanDraw, CanWrite, CanWriteUnder}
use Rattle.pt_core.specs.declared.settings.Backend.{Backend}
use Rattle.pt_core.specs.declared.settings.Backend.TheVariants as backends
use Rattle.pt_core.specs.declared.settings.Settings.{Settings}
use Rattle.pt_core.specs.declared.trace.Trace.{Trace}
use Rattle.bit_image.specs.Page.{Page, IsPage}
use Rattle.potrace_words.specs.declared.ask.Ask.TheVariants as asks
use Rattle.potrace_words.proofs.Possible.{possible}
use Rattle.page_trace.specs.Document.{IsDocument, IsDocumentUnder}
use Rattle.page_trace.specs.Trace.{IsTrace}
use Rattle.document_readings.specs.DxfReading.{dxf_polylines}
use Rattle.document_readings.specs.EpsBox.{eps_box}
use Rattle.document_readings.specs.GeoJsonReading.{geojson_polygons}
use Rattle.document_readings.specs.PsReading.{ps_painted}
use Rattle.document_readings.specs.Rings.{polyline_of, trace_polygons}
use Rattle.document_readings.specs.SvgPicture.{trace_picture}
use Rattle.document_readings.specs.SvgReading.{svg_picture}
use Rattle.document_readings.specs.TraceShapes.{filled_shapes}
use Rattle.document_readings.proofs.DxfDocuments.{polylines_of_text}
use Rattle.document_readings.proofs.EpsBoxes.{document_boxed}
use Rattle.document_readings.proofs.GeoJsonDocuments.{polygons_of_text}
use Rattle.document_readings.proofs.PsDocuments.{document_painted, page_painted}
use Rattle.document_readings.proofs.SvgDocuments.{document_shown}
use Rattle.page_readings.specs.AskedFor.{AskUnder}
use Rattle.page_readings.proofs.Reach.{trace_in_reach}
use Rattle.page_readings.proofs.Shapes.{shapes_have_two_pieces}
use Rattle.page_readings.proofs.TwoPieces.{trace_has_two_pieces}

-- what words give can be written
given : (words : List (List ℕ)) (settings : Settings) → AskUnder words settings → CanWrite settings
given words settings under = (possible words (asks.Files under.names under.output under.workers settings) under.asked).0.document

pub given_by : (backend : Backend) (words : List (List ℕ)) (settings : Settings) → AskUnder words settings → settings.backend ≡ backend → CanWriteUnder backend settings
given_by backend words settings under set = subst (λ (b : Backend). CanWriteUnder b settings) set (given words settings under)

-- the document under the backend that is set
pub document_by : (backend : Backend) (page : Page) (settings : Settings) (text : List ℕ) → settings.backend ≡ backend → IsDocument page settings text → IsDocumentUnder backend page settings text
document_by backend page settings text set document = subst (λ (b : Backend). IsDocumentUnder b page settings text) set document

wide_enough : (page : Page) (settings : Settings) (trace : Trace) → IsPage page → IsTrace page settings trace → (trace.width < 2 ^ 32) × (trace.height < 2 ^ 32)
wide_enough page settings trace is_page is =
    let width = is.polygons.width in
    let height = is.polygons.height in
    let wide = is_page.most_width in
    let high = is_page.most_height in
    (omega arith, omega arith)

pub svg_shown : (words : List (List ℕ)) (settings : Settings) (page : Page) (text : List ℕ) → AskUnder words settings → settings.backend ≡ backends.Svg → IsPage page → IsDocument page settings text
    → (trace : Trace) × IsTrace page settings trace × (svg_picture text ≡ Some (trace_picture settings.unit settings.flat trace))
svg_shown words settings page text under set is_page document =
    let found = document_by backends.Svg page settings text set document in
    let trace = found.0 in
    let is : IsTrace page settings trace = found.1 in
    let can : CanDraw settings = given_by backends.Svg words settings under set in
    let sides = wide_enough page settings trace is_page is in
    (trace, is, ap svg_picture found.2 ∙ document_shown settings.unit settings.flat trace can.most sides.0 sides.1 (trace_in_reach page settings trace is_page is))

pub eps_shown : (words : List (List ℕ)) (settings : Settings) (page : Page) (text : List ℕ) → AskUnder words settings → settings.backend ≡ backends.Eps → IsPage page → IsDocument page settings text
    → (trace : Trace) × IsTrace page settings trace × (ps_painted text ≡ Some (record { pages = []; unshown = filled_shapes settings.unit trace }))
    × (eps_box text ≡ Some (record { left = 0; bottom = 0; right = page.width; top = page.height }))
eps_shown words settings page text under set is_page document =
    let found = document_by backends.Eps page settings text set document in
    let trace = found.0 in
    let is : IsTrace page settings trace = found.1 in
    let can : CanDraw settings = given_by backends.Eps words settings under set in
    let sides = wide_enough page settings trace is_page is in (
      trace,
      is,
      ap ps_painted found.2 ∙ document_painted settings.unit trace can.some can.most sides.0 sides.1 (trace_in_reach page settings trace is_page is),
      ap eps_box found.2 ∙ document_boxed settings.unit trace sides.0 sides.1
          ∙ ap (λ w. Some (record { left = 0; bottom = 0; right = w; top = trace.height })) is.polygons.width
          ∙ ap (λ h. Some (record { left = 0; bottom = 0; right = page.width; top = h })) is.polygons.height,
    )

pub ps_shown : (words : List (List ℕ)) (settings : Settings) (page : Page) (text : List ℕ) → AskUnder words settings → settings.backend ≡ backends.Ps → IsPage page → IsDocument page settings text
    → (trace : Trace) × IsTrace page settings trace × (ps_painted text ≡ Some (record { pages = filled_shapes settings.unit trace ∷ []; unshown = [] }))
ps_shown words settings page text under set is_page document =
    let found = document_by backends.Ps page settings text set document in
    let trace = found.0 in
    let is : IsTrace page settings trace = found.1 in
    let can : CanDraw settings = given_by backends.Ps words settings under set in
    (trace, is, ap ps_painted found.2 ∙ page_painted settings.unit trace can.some can.most (trace_in_reach page settings trace is_page is))

pub geojson_shown : (settings : Settings) (page : Page) (text : List ℕ) → settings.backend ≡ backends.GeoJson → IsPage page → IsDocument page settings text
    → (trace : Trace) × IsTrace page settings trace × (geojson_polygons text ≡ Some (trace_polygons trace))
geojson_shown settings page text set is_page document =
    let found = document_by backends.GeoJson page settings text set document in
    let trace = found.0 in
    let is : IsTrace page settings trace = found.1 in
    (trace, is, ap geojson_polygons found.2 ∙ polygons_of_text trace (trace_in_reach page settings trace is_page is) (shapes_have_two_pieces page settings trace is_page is))

pub dxf_shown : (settings : Settings) (page : Page) (text : List ℕ) → settings.backend ≡ backends.Dxf → IsPage page → IsDocument page settings text
    → (trace : Trace) × IsTrace page settings trace × (dxf_polylines text ≡ Some (map polyline_of trace.outlines))
dxf_shown settings page text set is_page document =
    let found = document_by backends.Dxf page settings text set document in
    let trace = found.0 in
    let is : IsTrace page settings trace = found.1 in
    (trace, is, ap dxf_polylines found.2 ∙ polylines_of_text trace (trace_in_reach page settings trace is_page is) (trace_has_two_pieces page settings trace is_page is))
