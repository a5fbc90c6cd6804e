-- The certificates of a page are right.
use Rattle.std.proofs.Common.{◌≡◌, ℕ, ◌*◌, ◌<◌, ◌≤◌, ◌^◌, Bool, true, false, cond, List, [], ◌∷◌, All, length, ap, sym, subst, suc, arith}
use Rattle.std.specs.Prelude.{nat_lt}
use Rattle.std.proofs.lemmas.Nat.{mul-le}
use Rattle.pt_core.specs.declared.limits.TheConstants.{LONGEST_SIDE}
use Rattle.pt_core.specs.declared.path.Path.{Path}
use Rattle.pt_core.specs.declared.settings.Backend.{Backend}
use Rattle.pt_core.specs.declared.settings.Backend.TheVariants.{Proofs}
use Rattle.pt_core.specs.declared.settings.Settings.{Settings}
use Rattle.pt_core.specs.declared.trace.Trace.{Trace}
use Rattle.bit_image.specs.Page.{IsPage, Page}
use Rattle.path_decompose.specs.Decomposition.{kept}
use Rattle.path_decompose.specs.Inner.Bounds.{IsPathOn}
use Rattle.path_decompose.proofs.PathOn.{page_paths_on}
use Rattle.outline_check.specs.Printed.{IsPrinted}
use Rattle.list_reader.specs.PagePoints.{IsInPage}
use Rattle.outline_check.specs.Verdicts.{IsVerdict}
use Rattle.outline_check.specs.declared.verdict.Verdict.TheVariants.{Right}
use Rattle.outline_check.proofs.Written.{right_text}
use Rattle.page_trace.specs.Document.{IsDocument, IsDocumentUnder}
use Rattle.page_trace.specs.Trace.{ArePaths, HasPolygons}
use Rattle.page_trace.proofs.Certified.{all_in_page, all_through_first}
use Rattle.page_trace.proofs.Kept.{all_kept}
use Rattle.point_fill.proofs.Traced.{few_paths}

-- no more are kept than there are
kept_le : (turd : ℕ) (paths : List Path) → length (kept turd paths) ≤ length paths
kept_le turd [] = omega arith
kept_le turd (path ∷ paths) = one (nat_lt turd path.area) (kept_le turd paths) where
  one : (t : Bool) → length (kept turd paths) ≤ length paths → length (cond t (path ∷ kept turd paths) (kept turd paths)) ≤ suc (length paths)
  one true h = omega arith
  one false h = omega arith

few_kept : (page : Page) (settings : Settings) (paths : List Path) → IsPage page → ArePaths page settings paths → length paths < 2 ^ 32
few_kept page settings paths is_page are =
    let count = few_paths page settings.policy are.all is_page are.decomposed in
    let pixels : page.width * page.height ≤ LONGEST_SIDE * LONGEST_SIDE = mul-le page.width page.height LONGEST_SIDE LONGEST_SIDE is_page.most_width is_page.most_height in
    let same : length paths ≡ length (kept settings.turd are.all) = ap (λ (l : List Path). length l) are.no_speckles in
    omega (arith, count, pixels, same, kept_le settings.turd are.all)

-- the paths of a page are closed walks over its corners
kept_on : (page : Page) (settings : Settings) (paths : List Path) → IsPage page → ArePaths page settings paths → All (IsPathOn page.width page.height) paths
kept_on page settings paths is_page are =
    all_kept settings.turd (IsPathOn page.width page.height) are.all paths are.no_speckles
    (page_paths_on page settings.policy are.all is_page are.decomposed)

certified : (page : Page) (settings : Settings) (trace : Trace) (text : List ℕ) → IsPage page → settings.cyclic ≡ false → HasPolygons page settings trace → IsPrinted trace text
    → IsVerdict text (Right (length trace.paths))
certified page settings trace text is_page first has printed =
    let on = kept_on page settings trace.paths is_page has.paths in
    let wide = sym has.width in
    let high = sym has.height in
    let inside = all_in_page page.width page.height trace.paths (λ k d below. (on k d below).on_page) in
    let P : ℕ → Type 0 = λ width. All (λ (p : Path). All (IsInPage width page.height) p.points) trace.paths in
    let Q : ℕ → Type 0 = λ height. All (λ (p : Path). All (IsInPage trace.width height) p.points) trace.paths in
    right_text trace text
    (subst (λ n. 1 ≤ n) wide is_page.some_width) (subst (λ n. n ≤ LONGEST_SIDE) wide is_page.most_width)
    (subst (λ n. 1 ≤ n) high is_page.some_height) (subst (λ n. n ≤ LONGEST_SIDE) high is_page.most_height)
    (few_kept page settings trace.paths is_page has.paths) (λ k d below. (on k d below).closed) (subst Q high (subst P wide inside))
    (all_through_first settings trace.paths trace.polygons first has.polygons) printed

pub right_page : (page : Page) (settings : Settings) (text : List ℕ) → IsPage page → settings.backend ≡ Proofs → settings.cyclic ≡ false → IsDocument page settings text
    → (paths : List Path) × ArePaths page settings paths × IsVerdict text (Right (length paths))
right_page page settings text is_page proofs first document =
    let (trace, has, printed) = subst (λ (b : Backend). IsDocumentUnder b page settings text) proofs document in
    (trace.paths, has.paths, certified page settings trace text is_page first has printed)
