-- How long the documents of pages are.
use Rattle.std.proofs.Common.{◌≡◌, ℕ, ◌+◌, ◌*◌, ◌≤◌, List, All, length, nat_lt, sum_by, ap, subst, sym, ◌∙◌, arith}
use Rattle.std.proofs.lemmas.List.Elements.{All-filter}
use Rattle.pt_core.specs.ClosedWalk.{IsClosedWalk}
use Rattle.pt_core.specs.declared.path.Path.{Path}
use Rattle.pt_core.specs.declared.settings.Backend.{Backend}
use Rattle.pt_core.specs.declared.settings.Backend.TheVariants.{Dxf, Eps, GeoJson, Points, Polygons, Proofs, Ps, Svg}
use Rattle.pt_core.specs.declared.settings.Settings.{Settings}
use Rattle.pt_core.specs.declared.trace.Trace.{Trace}
use Rattle.bit_image.specs.Page.{IsPage, Page}
use Rattle.path_decompose.proofs.PathOn.{page_paths_on}
use Rattle.page_trace.specs.Document.{IsDocumentUnder}
use Rattle.page_trace.specs.Trace.{ArePaths, HasPolygons, IsTrace}
use Rattle.page_readings.proofs.Reach.{trace_in_reach}
use Rattle.page_sizes.specs.Bytes.{bytes_beside, bytes_each}
use Rattle.page_sizes.specs.Edges.{side_count}
use Rattle.page_sizes.proofs.Certificates.{CanBeListed, certificates_text_most, polygons_text_most}
use Rattle.page_sizes.proofs.Chorded.{dxf_most, geojson_most}
use Rattle.page_sizes.proofs.Drawn.{CanBeDrawn, eps_most, ps_page_most, svg_most}
use Rattle.page_sizes.proofs.Fewer.{AreFew, outlines_few}
use Rattle.page_sizes.proofs.Listed.{AreSmallPaths, paths_small, points_text_most}
use Rattle.page_sizes.proofs.Weights.{fours_most}

-- what is known of the paths that are kept of a page
kept_small : (page : Page) (settings : Settings) (paths : List Path) → IsPage page → ArePaths page settings paths → AreSmallPaths page.width page.height paths
kept_small page settings paths is_page are =
    subst (AreSmallPaths page.width page.height) (sym are.no_speckles) (paths_small page settings.policy (λ path. nat_lt settings.turd path.area) are.all is_page are.decomposed)

kept_closed : (page : Page) (settings : Settings) (paths : List Path) → IsPage page → ArePaths page settings paths → All (λ (p : Path). IsClosedWalk p.points) paths
kept_closed page settings paths is_page are =
    subst (All (λ (p : Path). IsClosedWalk p.points)) (sym are.no_speckles)
    (All-filter (λ path. nat_lt settings.turd path.area) (λ (p : Path). IsClosedWalk p.points) are.all
    (λ k d short. (page_paths_on page settings.policy are.all is_page are.decomposed k d short).closed))

listed : (page : Page) (settings : Settings) (trace : Trace) → IsPage page → HasPolygons page settings trace → CanBeListed settings trace
listed page settings trace is_page has = record {
  wide = omega (arith, has.width, is_page.most_width);
  high = omega (arith, has.height, is_page.most_height);
  closed = kept_closed page settings trace.paths is_page has.paths;
  small = subst (λ w. AreSmallPaths w trace.height trace.paths) (sym has.width) (subst (λ h. AreSmallPaths page.width h trace.paths) (sym has.height) (kept_small page settings trace.paths is_page has.paths));
  polygons = has.polygons;
}

sides_same : (page : Page) (settings : Settings) (trace : Trace) → HasPolygons page settings trace → side_count trace.width trace.height ≡ side_count page.width page.height
sides_same page settings trace has = ap (λ w. side_count w trace.height) has.width ∙ ap (side_count page.width) has.height

few_pieces : (page : Page) (settings : Settings) (trace : Trace) → IsTrace page settings trace → AreFew trace.paths trace.outlines
few_pieces page settings trace is = outlines_few settings trace.paths trace.polygons trace.vertices trace.outlines is.polygons.polygons is.vertices is.outlines

drawn : (page : Page) (settings : Settings) (trace : Trace) → IsPage page → IsTrace page settings trace → CanBeDrawn trace
drawn page settings trace is_page is = record {
  wide = omega (arith, is.polygons.width, is_page.most_width);
  high = omega (arith, is.polygons.height, is_page.most_height);
  in_reach = trace_in_reach page settings trace is_page is;
  groups = is.groups;
  each_path = (few_pieces page settings trace is).each_path;
}

-- how many pieces and outlines there are together, by the sides of the page's pixels
record AreWithin (sides pieces outlines : ℕ) : Type 0 where
  few : pieces ≤ sides
  fours : 4 * outlines ≤ sides

within : (page : Page) (settings : Settings) (trace : Trace) → IsPage page → IsTrace page settings trace → AreWithin (side_count page.width page.height) (sum_by length trace.outlines) (length trace.outlines)
within page settings trace is_page is =
    let small = kept_small page settings trace.paths is_page is.polygons.paths in
    let few = few_pieces page settings trace is in
    let fours = fours_most (λ (path : Path). length path.points) trace.paths (λ k d short. (small.each k d short).least) in
    record { few = omega (arith, few.together, small.together); fours = omega (arith, few.each_path, small.together) }

pub document_most : (backend : Backend) (page : Page) (settings : Settings) (text : List ℕ) → IsPage page → settings.unit ≤ 1000 → IsDocumentUnder backend page settings text
    → length text ≤ bytes_each backend * side_count page.width page.height + bytes_beside backend
document_most Points page settings text is_page few document =
    let most = points_text_most page.width page.height document.0 is_page.most_width is_page.most_height (kept_small page settings document.0 is_page document.1) in
    omega (arith, ap length document.2)
document_most Polygons page settings text is_page few document =
    let most = polygons_text_most settings document.0 (listed page settings document.0 is_page document.1) in
    omega (arith, ap length document.2, sides_same page settings document.0 document.1)
document_most Proofs page settings text is_page few document =
    let most = certificates_text_most settings document.0 text (listed page settings document.0 is_page document.1) document.2 in
    omega (arith, sides_same page settings document.0 document.1)
document_most Svg page settings text is_page few document =
    let most = svg_most settings.unit settings.flat document.0 few (drawn page settings document.0 is_page document.1) in
    let all = within page settings document.0 is_page document.1 in
    omega (arith, ap length document.2, all.few, all.fours)
document_most Eps page settings text is_page few document =
    let most = eps_most settings.unit document.0 few (drawn page settings document.0 is_page document.1) in
    let all = within page settings document.0 is_page document.1 in
    omega (arith, ap length document.2, all.few, all.fours)
document_most Ps page settings text is_page few document =
    let most = ps_page_most settings.unit document.0 few (drawn page settings document.0 is_page document.1) in
    let all = within page settings document.0 is_page document.1 in
    omega (arith, ap length document.2, all.few, all.fours)
document_most Dxf page settings text is_page few document =
    let most = dxf_most document.0 (drawn page settings document.0 is_page document.1).in_reach in
    let all = within page settings document.0 is_page document.1 in
    omega (arith, ap length document.2, all.few, all.fours)
document_most GeoJson page settings text is_page few document =
    let most = geojson_most document.0 (drawn page settings document.0 is_page document.1) in
    let all = within page settings document.0 is_page document.1 in
    omega (arith, ap length document.2, all.few, all.fours)
