-- The paths found so far, and the image that they leave.
use Rattle.std.proofs.Common.{◌≡◌, ℕ, ◌<◌, List, [], ◌∷◌, ◌++◌, Option, None, ap, sym, subst, ◌∙◌, inl, inr}
use Rattle.std.proofs.Math.Path.{fun_ext}
use Rattle.std.proofs.lemmas.Bool.{cases_lt}
use Rattle.pt_core.specs.declared.path.Path.{Path}
use Rattle.pt_core.specs.declared.policy.Policy.{Policy}
use Rattle.bit_image.specs.Image.{Image, IsWhite, Fits}
use Rattle.bit_image.specs.Page.{Page}
use Rattle.path_decompose.specs.Decomposition.{inverted, IsNextPath, IsDecomposed}
use Rattle.path_decompose.specs.Inner.Start.{IsStart}
use Rattle.path_decompose.proofs.Beyond.{white_off}
use Rattle.path_decompose.proofs.NextPath.{fits_inverted}

-- these paths come one after another, and then the page has become the image c
abbrev pub IsDecomposedTo : Page → Policy → Image → List Path → Image → Type 0
IsDecomposedTo page policy b [] c = b ≡ c
IsDecomposedTo page policy b (path ∷ paths) c = IsNextPath page policy b path × IsDecomposedTo page policy (inverted b path.points) paths c

decomposed_more : (page : Page) (policy : Policy) (b : Image) (paths : List Path) (c d : Image) (path : Path) → IsDecomposedTo page policy b paths c → IsNextPath page policy c path → inverted c path.points ≡ d → IsDecomposedTo page policy b (paths ++ path ∷ []) d
decomposed_more page policy b [] c d path so_far n e = (subst (λ i. IsNextPath page policy i path) (sym so_far) n, ap (λ i. inverted i path.points) so_far ∙ e)
decomposed_more page policy b (p ∷ ps) c d path so_far n e = (so_far.0, decomposed_more page policy (inverted b p.points) ps c d path so_far.1 n e)

decomposed_all : (page : Page) (policy : Policy) (b : Image) (paths : List Path) (c : Image) → IsDecomposedTo page policy b paths c → IsWhite c → IsDecomposed page policy b paths
decomposed_all page policy b [] c so_far white = subst IsWhite (sym so_far) white
decomposed_all page policy b (p ∷ ps) c so_far white = (so_far.0, decomposed_all page policy (inverted b p.points) ps c so_far.1 white)

-- an image that agrees with the inverted one on the page, and fits the page, is that image
inverted_is : (page : Page) (policy : Policy) (c d : Image) (path : Path) (width height : ℕ) → IsNextPath page policy c path → Fits c width height → Fits d width height → ((u v : ℕ) → u < width → d u v ≡ inverted c path.points u v) → inverted c path.points ≡ d
inverted_is page policy c d path width height n fits fits_new flipped =
    fun_ext (λ u. fun_ext (λ v. elim (cases_lt u width) [
      | inl left ↦ sym (flipped u v left)
      | inr right ↦
          white_off (inverted c path.points) width height u v (fits_inverted page policy c path width height n fits) right
          ∙ sym (white_off d width height u v fits_new right)
    ]))

-- one more path
pub decomposed_push : (page : Page) (policy : Policy) (b : Image) (paths : List Path) (c d : Image) (path : Path) (width height : ℕ) → IsDecomposedTo page policy b paths c → IsNextPath page policy c path → Fits c width height → Fits d width height → ((u v : ℕ) → u < width → d u v ≡ inverted c path.points u v) → IsDecomposedTo page policy b (paths ++ path ∷ []) d
decomposed_push page policy b paths c d path width height so_far n fits fits_new flipped =
    decomposed_more page policy b paths c d path so_far n (inverted_is page policy c d path width height n fits fits_new flipped)

-- where no start is left, these are all paths
pub decomposed_at_end : (page : Page) (policy : Policy) (b : Image) (paths : List Path) (c : Image) (start : Option (ℕ × ℕ)) → IsDecomposedTo page policy b paths c → IsStart c start → start ≡ None → IsDecomposed page policy b paths
decomposed_at_end page policy b paths c start so_far is_start none = decomposed_all page policy b paths c so_far (subst (IsStart c) none is_start)
