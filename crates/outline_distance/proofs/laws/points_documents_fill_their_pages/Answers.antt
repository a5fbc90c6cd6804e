use Rattle.std.proofs.Common.{◌≡◌, ℕ, List, sym, ◌∙◌, ap, subst}
use Rattle.pt_base.specs.PointsText.{points_text}
use Rattle.pt_core.specs.declared.settings.Backend.{Backend}
use Rattle.pt_core.specs.declared.settings.Backend.TheVariants as backends
use Rattle.pt_core.specs.declared.settings.Settings.{Settings}
use Rattle.bit_image.specs.Page.{IsPage, Page}
use Rattle.path_decompose.specs.Decomposition.{kept}
use Rattle.page_trace.specs.Document.{IsDocumentUnder}
use Rattle.point_fill.specs.Filled.{IsFilled}
use Rattle.point_fill.proofs.Traced.{traced}
use Rattle.outline_distance.proofs.laws.points_documents_fill_their_pages.Goals as goal

-- the document shows all paths of the page
fills : (page : Page) (settings : Settings) (text : List ℕ) → IsPage page → settings.turd ≡ 0 → IsDocumentUnder backends.Points page settings text → IsFilled text page
fills page settings text is_page none (paths, are, is) =
    let all : text ≡ points_text page.width page.height (kept 0 are.all) =
    is ∙ ap (points_text page.width page.height) (are.no_speckles ∙ ap (λ (t : ℕ). kept t are.all) none) in
    subst (λ (t : List ℕ). IsFilled t page) (sym all) (traced page settings.policy are.all is_page are.decomposed)

pub returns : goal.returns
returns c = λ page settings text is_page points none document.
    fills page settings text is_page none (subst (λ (b : Backend). IsDocumentUnder b page settings text) points document)
