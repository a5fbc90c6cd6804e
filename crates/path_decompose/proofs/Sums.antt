-- The paths of a decomposition come to the page, and use each of its edges once.
use Rattle.std.proofs.Common.{◌≡◌, ℕ, zero, suc, ◌+◌, Bool, true, false, cond, List, [], ◌∷◌, map, count_by, sum_by, refl, ap, sym, ◌∙◌}
use Rattle.std.proofs.lemmas.List.Sums.{sum_by-cons}
use Rattle.pt_core.specs.declared.path.Path.{Path}
use Rattle.pt_core.specs.declared.policy.Policy.{Policy}
use Rattle.bit_image.specs.Image.{Image, IsWhite, differ}
use Rattle.bit_image.specs.Page.{Page}
use Rattle.boundary_edges.specs.GridEdges.{GridEdge, upright, level, same_line, is_edge}
use Rattle.path_decompose.specs.Walk.{first_edge}
use Rattle.boundary_edges.specs.Inside.{lines_of, inside}
use Rattle.path_decompose.specs.Decomposition.{inverted, IsNextPath, IsDecomposed}
use Rattle.path_decompose.specs.AllPaths.{IsEvenOdd, IsEdgesOnce}
use Rattle.boundary_edges.proofs.Differ.{differ_back}
use Rattle.path_decompose.proofs.Parity.{odd_by, is_odd-count}
use Rattle.path_decompose.proofs.EdgeLine.{line_of}
use Rattle.path_decompose.proofs.Once.{count_by-line, odd_by-no_edge}
use Rattle.path_decompose.proofs.NextPath.{next_circuit, next_lines, is_edge-inverted}

odd_inside : (page : Page) (policy : Policy) (b : Image) (paths : List Path) → IsDecomposed page policy b paths → (x y : ℕ) → b x y ≡ odd_by (λ path. inside path.points x y) paths
odd_inside page policy b [] white x y = white x y
odd_inside page policy b (path ∷ paths) d x y =
    differ_back (b x y) (inside path.points x y) (odd_by (λ p. inside p.points x y) paths) (odd_inside page policy (inverted b path.points) paths d.1 x y)

-- each step inverts an inside, and at last all is white
pub even_odd : (page : Page) (policy : Policy) (b : Image) (paths : List Path) → IsDecomposed page policy b paths → IsEvenOdd b paths
even_odd page policy b paths d x y = odd_inside page policy b paths d x y ∙ sym (is_odd-count (λ path. inside path.points x y) paths)

no_edge : (b : Image) → IsWhite b → (l : GridEdge) → is_edge b l ≡ false
no_edge b white (upright zero y) = white zero y
no_edge b white (upright (suc x) y) = rw (white x y, white (suc x) y) refl
no_edge b white (level x zero) = white x zero
no_edge b white (level x (suc y)) = rw (white x y, white x (suc y)) refl

-- lines e that are edges, and lines m that a path uses, which are among them
tally : (m e : Bool) → (e ≡ false → m ≡ false) → cond m 1 0 + cond (differ e m) 1 0 ≡ cond e 1 0
tally true true h = refl
tally true false h = absurd (let no : true ≡ false = h refl in cc)
tally false true h = refl
tally false false h = refl

pub count_by-map : {A B : Type 0} (f : B → Bool) (g : A → B) (xs : List A) → count_by f (map g xs) ≡ count_by (λ x. f (g x)) xs
count_by-map f g [] = refl
count_by-map f g (x ∷ xs) =
    sum_by-cons (λ y. cond (f y) 1 0) (g x) (map g xs)
    ∙ ap (λ n. cond (f (g x)) 1 0 + n) (count_by-map f g xs)
    ∙ sym (sum_by-cons (λ y. cond (f (g y)) 1 0) x xs)

-- each step takes away the edges of one path, each of which it uses once
pub edges_once : (page : Page) (policy : Policy) (b : Image) (paths : List Path) → IsDecomposed page policy b paths → IsEdgesOnce b paths
edges_once page policy b [] white l = sym (ap (λ e. cond e 1 0) (no_edge b white l))
edges_once page policy b (path ∷ paths) d l =
    let n : IsNextPath page policy b path = d.0 in
    let c = next_circuit page policy b path n in
    let used : Bool = odd_by (λ e. same_line l (line_of e)) n.walk.edges in
    let here : count_by (same_line l) (lines_of path.points) ≡ cond used 1 0 =
    ap (count_by (same_line l)) (next_lines page policy b path n) ∙ count_by-map (same_line l) line_of n.walk.edges ∙ count_by-line b policy path.sign (first_edge n.x n.y) n.walk.edges c l in
    sum_by-cons (λ p. count_by (same_line l) (lines_of p.points)) path paths
    ∙ ap (λ k. k + sum_by (λ p. count_by (same_line l) (lines_of p.points)) paths) here
    ∙ ap (λ k. cond used 1 0 + k) (edges_once page policy (inverted b path.points) paths d.1 l)
    ∙ ap (λ e. cond used 1 0 + cond e 1 0) (is_edge-inverted page policy b path n l)
    ∙ tally used (is_edge b l) (odd_by-no_edge b policy path.sign (first_edge n.x n.y) n.walk.edges c l)
