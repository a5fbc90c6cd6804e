-- The paths found so far that are above the limit, and the image that they leave.
use Rattle.std.proofs.Common.{◌≡◌, ℕ, ◌<◌, List, [], ◌∷◌, ◌++◌, All, Option, None, ap, sym, subst, ◌∙◌}
use Rattle.std.proofs.lemmas.List.Elements.{All-filter, filter-append}
use Rattle.pt_core.specs.declared.path.Path.{Path}
use Rattle.pt_core.specs.declared.policy.Policy.{Policy}
use Rattle.bit_image.specs.Image.{Image, Fits}
use Rattle.bit_image.specs.Page.{Page}
use Rattle.path_decompose.specs.Inner.Decomposition.{above, is_above}
use Rattle.path_decompose.specs.Decomposition.{inverted, IsNextPath, IsDecomposed}
use Rattle.path_decompose.specs.Inner.Start.{IsStart}
use Rattle.path_decompose.proofs.Prefix.{IsDecomposedTo, decomposed_push, decomposed_at_end}

-- some paths come one after another, then the page has become the image c, and these are those above the limit
abbrev pub IsAboveTo : Page → Policy → Image → Option ℕ → List Path → Image → Type 0
IsAboveTo page policy b limit paths c = (all : List Path) × IsDecomposedTo page policy b all c × (paths ≡ above limit all)

-- one more path, which is added where it is above the limit
pub above_push : (page : Page) (policy : Policy) (b : Image) (limit : Option ℕ) (paths paths_now : List Path) (c d : Image) (path : Path) (width height : ℕ) → IsAboveTo page policy b limit paths c → IsNextPath page policy c path → Fits c width height → Fits d width height → ((u v : ℕ) → u < width → d u v ≡ inverted c path.points u v) → paths_now ≡ paths ++ above limit (path ∷ []) → IsAboveTo page policy b limit paths_now d
above_push page policy b limit paths paths_now c d path width height so_far n fits fits_new flipped added = (
  so_far.0 ++ path ∷ [],
  decomposed_push page policy b so_far.0 c d path width height so_far.1 n fits fits_new flipped,
  added ∙ ap (λ front. front ++ above limit (path ∷ [])) so_far.2 ∙ sym (filter-append (is_above limit) so_far.0 (path ∷ [])),
)

-- where no start is left, these are all of them
pub above_at_end : (page : Page) (policy : Policy) (b : Image) (limit : Option ℕ) (paths : List Path) (c : Image) (start : Option (ℕ × ℕ)) → IsAboveTo page policy b limit paths c → IsStart c start → start ≡ None → (all : List Path) × IsDecomposed page policy b all × (paths ≡ above limit all)
above_at_end page policy b limit paths c start so_far is_start none =
    (so_far.0, decomposed_at_end page policy b so_far.0 c start so_far.1 is_start none, so_far.2)

-- what holds of all paths holds of those above the limit
pub all_above : (limit : Option ℕ) (P : Path → Type 0) (all paths : List Path) → paths ≡ above limit all → All P all → All P paths
all_above limit P all paths is holds = subst (All P) (sym is) (All-filter (is_above limit) P all holds)

-- with no limit these are all paths
pub above_none : (paths : List Path) → above None paths ≡ paths
above_none [] = λ i. []
above_none (path ∷ paths) = ap (λ more. path ∷ more) (above_none paths)
