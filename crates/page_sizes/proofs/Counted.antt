-- The points of a page's paths are its edges.
use Rattle.std.proofs.Common.{◌≡◌, ℕ, suc, zero, ◌+◌, ◌*◌, ◌≤◌, Bool, true, false, cond, List, [], ◌∷◌, All, flat_map, length, count_by, sum_by, refl, ap, sym, subst, ◌∙◌, arith}
use Rattle.std.proofs.lemmas.List.Concat.{flat_map-cons, length-flat_map}
use Rattle.std.proofs.lemmas.List.Elements.{All-append, All-nil}
use Rattle.std.proofs.lemmas.List.Sums.{sum_by-append, sum_by-cons}
use Rattle.pt_core.specs.declared.path.Path.{Path}
use Rattle.pt_core.specs.declared.point.Point.{Point}
use Rattle.pt_core.specs.declared.policy.Policy.{Policy}
use Rattle.bit_image.specs.Image.{Fits, Image}
use Rattle.bit_image.specs.Page.{IsPage, Page, image_of}
use Rattle.bit_image.proofs.Pages.{Fits-page}
use Rattle.turn_policies.specs.Majority.{count_below, sum_below}
use Rattle.turn_policies.proofs.SumsBelow.{count_below-sum, sum_below-same}
use Rattle.path_decompose.specs.Decomposition.{IsDecomposed, IsDecomposition, inverted}
use Rattle.path_decompose.specs.Inside.{lines_of, lines_to}
use Rattle.path_decompose.specs.Inner.GridEdges.{IsLineOn}
use Rattle.path_decompose.specs.GridEdges.{GridEdge, is_edge, level, same_line, upright}
use Rattle.path_decompose.proofs.NextPath.{fits_inverted}
use Rattle.path_decompose.proofs.Sums.{edges_once}
use Rattle.path_decompose.proofs.Walked.{walk_lines_on}
use Rattle.page_sizes.specs.Edges.{edge_count, point_count, side_count}
use Rattle.page_sizes.proofs.Sided.{met_once, over_sides, over_sides-same}

length-lines_to : (end p : Point) (ps : List Point) → length (lines_to end p ps) ≡ suc (length ps)
length-lines_to end p [] = refl
length-lines_to end p (q ∷ qs) = ap suc (length-lines_to end q qs)

-- a path has a line for each point
length-lines_of : (points : List Point) → length (lines_of points) ≡ length points
length-lines_of [] = refl
length-lines_of (p ∷ ps) = length-lines_to p p ps

-- the lines of all paths
abbrev path_lines : List Path → List GridEdge
path_lines paths = flat_map (λ path. lines_of path.points) paths

lines_on : (page : Page) (policy : Policy) (b : Image) (paths : List Path) (width height : ℕ) → IsDecomposed page policy b paths → Fits b width height → All (IsLineOn width height) (path_lines paths)
lines_on page policy b [] width height d fits = All-nil (IsLineOn width height)
lines_on page policy b (path ∷ paths) width height d fits =
    subst (All (IsLineOn width height)) (sym (flat_map-cons (λ p. lines_of p.points) path paths))
    (All-append (IsLineOn width height) (lines_of path.points) (path_lines paths)
    (walk_lines_on b policy path.sign d.0.x d.0.y path.points width height d.0.first d.0.walk fits)
    (lines_on page policy (inverted b path.points) paths width height d.1 (fits_inverted page policy b path width height d.0 fits)))

met : (side : GridEdge) (paths : List Path) → count_by (same_line side) (path_lines paths) ≡ sum_by (λ path. count_by (same_line side) (lines_of path.points)) paths
met side [] = refl
met side (path ∷ paths) =
    ap (count_by (same_line side)) (flat_map-cons (λ p. lines_of p.points) path paths)
    ∙ sum_by-append (λ l. cond (same_line side l) 1 0) (lines_of path.points) (path_lines paths)
    ∙ ap (λ n. count_by (same_line side) (lines_of path.points) + n) (met side paths)
    ∙ sym (sum_by-cons (λ p. count_by (same_line side) (lines_of p.points)) path paths)

sum_same : {A : Type 0} (f g : A → ℕ) (xs : List A) → ((x : A) → f x ≡ g x) → sum_by f xs ≡ sum_by g xs
sum_same f g [] same = refl
sum_same f g (x ∷ xs) same =
    sum_by-cons f x xs ∙ ap (λ n. n + sum_by f xs) (same x) ∙ ap (λ n. g x + n) (sum_same f g xs same) ∙ sym (sum_by-cons g x xs)

edge_count-over : (b : Image) (width height : ℕ) → edge_count b width height ≡ over_sides width height (λ side. cond (is_edge b side) 1 0)
edge_count-over b width height =
    let uprights = sum_below-same height (λ y. count_below (suc width) (λ x. is_edge b (upright x y))) (λ y. sum_below (suc width) (λ x. cond (is_edge b (upright x y)) 1 0)) (λ y short. count_below-sum (suc width) (λ x. is_edge b (upright x y))) in
    let levels = sum_below-same (suc height) (λ y. count_below width (λ x. is_edge b (level x y))) (λ y. sum_below width (λ x. cond (is_edge b (level x y)) 1 0)) (λ y short. count_below-sum width (λ x. is_edge b (level x y))) in
    omega arith

pub points_counted : (page : Page) (policy : Policy) (paths : List Path) → IsPage page → IsDecomposition page policy paths → point_count paths ≡ edge_count (image_of page) page.width page.height
points_counted page policy paths is_page d =
    sum_same (λ path. length path.points) (λ path. length (lines_of path.points)) paths (λ path. sym (length-lines_of path.points))
    ∙ sym (length-flat_map (λ path. lines_of path.points) paths)
    ∙ sym (met_once page.width page.height (path_lines paths) (lines_on page policy (image_of page) paths page.width page.height d (Fits-page page is_page)))
    ∙ over_sides-same page.width page.height (λ side. count_by (same_line side) (path_lines paths)) (λ side. cond (is_edge (image_of page) side) 1 0)
    (λ side. met side paths ∙ edges_once page policy (image_of page) paths d side)
    ∙ sym (edge_count-over (image_of page) page.width page.height)

pub count_most : (n : ℕ) (f : ℕ → Bool) → count_below n f ≤ n
count_most zero f = omega arith
count_most (suc n) f = one (f n) (count_below n f) n (count_most n f)
  where
    one : (t : Bool) (a n : ℕ) → a ≤ n → cond t (suc a) a ≤ suc n
    one true a n most = omega arith
    one false a n most = omega arith

pub sum_most : (n each : ℕ) (f : ℕ → ℕ) → ((k : ℕ) → f k ≤ each) → sum_below n f ≤ n * each
sum_most zero each f most = omega arith
sum_most (suc n) each f most =
    let rest = sum_most n each f most in
    let last = most n in
    omega arith

pub edges_most : (b : Image) (width height : ℕ) → edge_count b width height ≤ side_count width height
edges_most b width height =
    let uprights = sum_most height (suc width) (λ y. count_below (suc width) (λ x. is_edge b (upright x y))) (λ y. count_most (suc width) (λ x. is_edge b (upright x y))) in
    let levels = sum_most (suc height) width (λ y. count_below width (λ x. is_edge b (level x y))) (λ y. count_most width (λ x. is_edge b (level x y))) in
    omega arith
