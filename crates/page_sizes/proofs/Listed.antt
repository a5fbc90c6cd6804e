-- How long the texts of paths as lists of points are.
use Rattle.std.proofs.Common.{◌≡◌, ℕ, ◌+◌, ◌*◌, ◌≤◌, ◌<◌, ◌≤ℤ◌, ◌^◌, ℤ, pos, negsuc, Bool, List, [], ◌∷◌, All, decimal, filter, flat_map, get_or, length, length-append, refl, arith}
use Rattle.std.specs.Fmt.{signed_decimal}
use Rattle.std.proofs.lemmas.Fmt.{length-decimal-le}
use Rattle.std.proofs.lemmas.Int.{ints}
use Rattle.std.proofs.lemmas.Nat.{mul-le}
use Rattle.std.proofs.lemmas.List.Sums.{sum_by-le}
use Rattle.std.proofs.lemmas.List.Elements.{All-cons, All-filter, All-nil}
use Rattle.pt_core.specs.declared.limits.TheConstants.{LONGEST_SIDE}
use Rattle.pt_core.specs.declared.path.Path.{Path}
use Rattle.pt_core.specs.declared.path.Sign.{Sign}
use Rattle.pt_core.specs.declared.path.Sign.TheVariants.{Minus, Plus}
use Rattle.pt_core.specs.declared.point.Point.{Point}
use Rattle.pt_core.specs.declared.policy.Policy.{Policy}
use Rattle.pt_base.specs.PointsText.{path_text, point_text, points_text, sign_text}
use Rattle.bit_image.specs.Image.{Image}
use Rattle.bit_image.specs.Page.{IsPage, Page, image_of}
use Rattle.turn_policies.specs.Majority.{count_below}
use Rattle.path_decompose.specs.Bounds.{IsCornerOf}
use Rattle.path_decompose.specs.Decomposition.{IsDecomposed, IsDecomposition, inverted}
use Rattle.path_decompose.specs.Inside.{black_count, inside}
use Rattle.path_decompose.proofs.PathOn.{page_paths_on}
use Rattle.page_sizes.specs.Edges.{point_count, side_count}
use Rattle.page_sizes.proofs.Counted.{count_most, edges_most, points_counted, sum_most}
use Rattle.page_sizes.proofs.Weights.{places_most, texts_most, weights_kept, weights_times}

-- what the texts of a path ask of it
pub record IsSmallPath (width height : ℕ) (path : Path) : Type 0 where
  pub least : 4 ≤ length path.points
  pub corners : All (IsCornerOf width height) path.points
  pub area : path.area < 2 ^ 30

black_most : (b : Image) (width height : ℕ) → black_count b width height ≤ height * width
black_most b width height = sum_most height width (λ y. count_below width (λ x. b x y)) (λ y. count_most width (λ x. b x y))

product_small : (m n : ℕ) → m ≤ LONGEST_SIDE → n ≤ LONGEST_SIDE → m * n < 2 ^ 30
product_small m n a b = omega (arith, mul-le m n LONGEST_SIDE LONGEST_SIDE a b)

areas_small : (page : Page) (policy : Policy) (b : Image) (paths : List Path) → page.width ≤ LONGEST_SIDE → page.height ≤ LONGEST_SIDE → IsDecomposed page policy b paths → All (λ path. path.area < 2 ^ 30) paths
areas_small page policy b [] wide high d = All-nil (λ path. path.area < 2 ^ 30)
areas_small page policy b (path ∷ paths) wide high d =
    let most = black_most (inside path.points) page.width page.height in
    All-cons (λ p. p.area < 2 ^ 30) path paths (omega (arith, d.0.area, product_small page.height page.width high wide))
    (areas_small page policy (inverted b path.points) paths wide high d.1)

pub small_paths : (page : Page) (policy : Policy) (paths : List Path) → IsPage page → IsDecomposition page policy paths → All (IsSmallPath page.width page.height) paths
small_paths page policy paths is_page d = λ k path short.
    let on = page_paths_on page policy paths is_page d k path short in
    record {
      least = on.closed.least;
      corners = on.on_page;
      area = areas_small page policy (image_of page) paths is_page.most_width is_page.most_height d k path short;
    }

coordinate_most : (z : ℤ) (most : ℕ) → pos 0 ≤ℤ z → z ≤ℤ pos most → most ≤ LONGEST_SIDE → length (signed_decimal z) ≤ 5
coordinate_most (pos n) most low high small = length-decimal-le 5 n (omega arith) (omega (arith, ints)) (omega (arith, ints))
coordinate_most (negsuc n) most low high small = absurd (omega (arith, ints))

pub point_most : (width height : ℕ) (p : Point) → width ≤ LONGEST_SIDE → height ≤ LONGEST_SIDE → IsCornerOf width height p → length (point_text p) ≤ 12
point_most width height p wide high on =
    let across = coordinate_most p.x width on.from_left on.to_right wide in
    let up = coordinate_most p.y height on.from_bottom on.to_top high in
    simp length-append (omega arith)

pub points_most : (width height : ℕ) (points : List Point) → width ≤ LONGEST_SIDE → height ≤ LONGEST_SIDE → All (IsCornerOf width height) points → length (flat_map point_text points) ≤ 12 * length points
points_most width height points wide high on =
    let texts = texts_most point_text (λ p. 12) points (λ k d short. point_most width height (get_or points k d) wide high (on k d short)) in
    omega (arith, sum_by-le (λ p. 12) 12 points (λ k d short. omega arith))

pub sign_one : (sign : Sign) → length (sign_text sign) ≡ 1
sign_one Plus = refl
sign_one Minus = refl

pub path_most : (width height : ℕ) (path : Path) → width ≤ LONGEST_SIDE → height ≤ LONGEST_SIDE → IsSmallPath width height path → length (path_text path) ≤ 16 * length path.points
path_most width height path wide high small =
    let area : length (decimal path.area) ≤ 10 = length-decimal-le 10 path.area (omega arith) (omega (arith, small.area)) (omega (arith, small.area)) in
    let points = points_most width height path.points wide high small.corners in
    simp length-append (omega (arith, sign_one path.sign, small.least))

-- the paths of a page that are kept, by a limit or none
pub record AreSmallPaths (width height : ℕ) (paths : List Path) : Type 0 where
  pub each : All (IsSmallPath width height) paths
  pub together : point_count paths ≤ side_count width height

pub paths_small : (page : Page) (policy : Policy) (keeps : Path → Bool) (paths : List Path) → IsPage page → IsDecomposition page policy paths → AreSmallPaths page.width page.height (filter keeps paths)
paths_small page policy keeps paths is_page d = record {
  each = All-filter keeps (IsSmallPath page.width page.height) paths (small_paths page policy paths is_page d);
  together = omega (arith, weights_kept keeps (λ path. length path.points) paths, points_counted page policy paths is_page d, edges_most (image_of page) page.width page.height);
}

sides_small : (width height : ℕ) → width ≤ LONGEST_SIDE → height ≤ LONGEST_SIDE → side_count width height < 2 ^ 31
sides_small width height wide high =
    omega (arith, mul-le height (width + 1) LONGEST_SIDE 32768 high (omega arith), mul-le (height + 1) width 32768 LONGEST_SIDE (omega arith) wide)

pub few_paths : (width height : ℕ) (paths : List Path) → width ≤ LONGEST_SIDE → height ≤ LONGEST_SIDE → AreSmallPaths width height paths → length paths < 2 ^ 31
few_paths width height paths wide high small =
    omega (arith, sides_small width height wide high, small.together, places_most (λ path. length path.points) paths (λ k d short. let p = small.each k d short in omega (arith, p.least)))

pub side_most : (n : ℕ) → n ≤ LONGEST_SIDE → length (decimal n) ≤ 5
side_most n small = length-decimal-le 5 n (omega arith) (omega arith) (omega arith)

pub count_text_most : (n : ℕ) → n ≤ 2 ^ 31 → length (decimal n) ≤ 10
count_text_most n small = length-decimal-le 10 n (omega arith) (omega arith) (omega arith)

pub points_text_most : (width height : ℕ) (paths : List Path) → width ≤ LONGEST_SIDE → height ≤ LONGEST_SIDE → AreSmallPaths width height paths → length (points_text width height paths) ≤ 16 * side_count width height + 30
points_text_most width height paths wide high small =
    let texts = texts_most path_text (λ path. 16 * length path.points) paths (λ k d short. path_most width height (get_or paths k d) wide high (small.each k d short)) in
    let times = weights_times 16 (λ path. length path.points) paths in
    let count = count_text_most (length paths) (omega (arith, few_paths width height paths wide high small)) in
    let across = side_most width wide in
    let up = side_most height high in
    simp length-append (omega (arith, small.together))
