-- The points text of a page's paths fills the same page.
use Rattle.std.proofs.Common.{◌≡◌, ℕ, zero, suc, ◌+◌, ◌-◌, ◌*◌, ◌<◌, ◌≤◌, ◌^◌, Bool, true, false, cond, List, [], ◌∷◌, All, length, get_or, Some, refl, ap, sym, ◌∙◌, inl, inr, arith}
use Rattle.std.specs.Prelude.{nat_lt}
use Rattle.std.proofs.lemmas.Bool.{cases_lt, lt-ltb, false≢true}
use Rattle.std.proofs.lemmas.Nat.{mul-le}
use Rattle.std.proofs.lemmas.List.Elements.{All-filter, All-head, All-tail, All-nil, All-cons}
use Rattle.pt_base.specs.PointsText.{points_text}
use Rattle.pt_core.specs.declared.limits.TheConstants.{LONGEST_SIDE}
use Rattle.pt_core.specs.declared.path.Path.{Path}
use Rattle.pt_core.specs.declared.policy.Policy.{Policy}
use Rattle.bit_image.specs.Image.{Image, Fits, differ}
use Rattle.bit_image.specs.FirstBlack.{IsFirstBlack}
use Rattle.bit_image.specs.Page.{Page, IsPage, image_of, page_of}
use Rattle.bit_image.proofs.Pages.{Fits-page, page_of-image_of, page_of-same}
use Rattle.turn_policies.specs.Majority.{count_below, sum_below}
use Rattle.path_decompose.specs.Inner.Bounds.{IsPathOn}
use Rattle.path_decompose.specs.Decomposition.{inverted, kept, IsNextPath, IsDecomposed, IsDecomposition}
use Rattle.path_decompose.specs.Inside.{inside, black_count}
use Rattle.path_decompose.specs.Inner.Start.{IsWhiteThrough}
use Rattle.path_decompose.proofs.NextPath.{fits_inverted}
use Rattle.path_decompose.proofs.Parity.{odd_by, is_odd-count}
use Rattle.path_decompose.proofs.PathOn.{page_paths_on}
use Rattle.path_decompose.proofs.Scan.{places_left_fall}
use Rattle.path_decompose.proofs.Sums.{even_odd}
use Rattle.path_decompose.proofs.Walked.{white_through}
use Rattle.point_fill.specs.PointsFile.{IsToldPath}
use Rattle.point_fill.specs.Filled as filled
use Rattle.point_fill.specs.Filled.{IsFilled}
use Rattle.point_fill.proofs.UniqueReading.{one_reading}

-- a text fills at most one page
pub one_filled : (text : List ℕ) (page other : Page) → IsFilled text page → IsFilled text other → other ≡ page
one_filled text page other a b =
    let same = one_reading text a.width a.height b.width b.height a.paths b.paths a.told b.told in
    b.filled
    ∙ ap (λ w. page_of w b.height (filled.even_odd b.paths)) same.widths
    ∙ ap (λ h. page_of a.width h (filled.even_odd b.paths)) same.heights
    ∙ ap (λ ps. page_of a.width a.height (filled.even_odd ps)) same.lists
    ∙ sym a.filled

-- ---- how many pixels are inside a path

rows_le : (n m : ℕ) (f : ℕ → ℕ) → ((k : ℕ) → f k ≤ m) → sum_below n f ≤ n * m
rows_le zero m f h = omega arith
rows_le (suc n) m f h = omega (arith, rows_le n m f h, h n)

-- a count is at most the number of candidates
count_below-le : (n : ℕ) (f : ℕ → Bool) → count_below n f ≤ n
count_below-le zero f = omega arith
count_below-le (suc n) f = more (f n) (count_below-le n f)
  where
    more : (t : Bool) → count_below n f ≤ n → cond t (suc (count_below n f)) (count_below n f) ≤ suc n
    more true most = omega arith
    more false most = omega arith

none_in_row : (n : ℕ) (f : ℕ → Bool) (k : ℕ) → count_below n f ≡ 0 → k < n → f k ≡ false
none_in_row zero f k none below = absurd (omega arith)
none_in_row (suc n) f k none below = last (f n) refl (λ less. none_in_row n f k less) none
  where
    last : (t : Bool) → f n ≡ t → (count_below n f ≡ 0 → k < n → f k ≡ false) → cond t (suc (count_below n f)) (count_below n f) ≡ 0 → f k ≡ false
    last true is front e = absurd (omega arith)
    last false is front e = elim (cases_lt k n) [
      | inl before ↦ front e before
      | inr at ↦ let same : k ≡ n = omega arith in ap f same ∙ is
    ]

none_in_rows : (n : ℕ) (f : ℕ → ℕ) (k : ℕ) → sum_below n f ≡ 0 → k < n → f k ≡ 0
none_in_rows zero f k none below = absurd (omega arith)
none_in_rows (suc n) f k none below = elim (cases_lt k n) [
  | inl before ↦ none_in_rows n f k (omega arith) before
  | inr at ↦ let same : k ≡ n = omega arith in ap f same ∙ (let last : f n ≡ 0 = omega arith in last)
]

none_inside : (b : Image) (width height x y : ℕ) → black_count b width height ≡ 0 → x < width → y < height → b x y ≡ false
none_inside b width height x y none hx hy =
    none_in_row width (λ u. b u y) x (none_in_rows height (λ v. count_below width (λ u. b u v)) y none hy) hx

-- the area of each path is the number of pixels inside it
areas : (page : Page) (policy : Policy) (b : Image) (paths : List Path) → IsDecomposed page policy b paths → All (λ path. path.area ≡ black_count (inside path.points) page.width page.height) paths
areas page policy b [] d = All-nil (λ (path : Path). path.area ≡ black_count (inside path.points) page.width page.height)
areas page policy b (path ∷ paths) d =
    All-cons (λ (p : Path). p.area ≡ black_count (inside p.points) page.width page.height) path paths (d.0).area (areas page policy (inverted b path.points) paths d.1)

-- ---- paths without pixels inside may be left out

odd_kept : (width height x y : ℕ) (paths : List Path) → x < width → y < height → All (λ path. path.area ≡ black_count (inside path.points) width height) paths
    → odd_by (λ path. inside path.points x y) (kept 0 paths) ≡ odd_by (λ path. inside path.points x y) paths
odd_kept width height x y [] hx hy all = refl
odd_kept width height x y (path ∷ paths) hx hy all =
    let A : Path → Type 0 = λ p. p.area ≡ black_count (inside p.points) width height in
    let f : Path → Bool = λ p. inside p.points x y in
    let rest : odd_by f (kept 0 paths) ≡ odd_by f paths = odd_kept width height x y paths hx hy (All-tail A path paths all) in
    one (nat_lt 0 path.area) refl (All-head A path paths all) rest
  where
    one : (t : Bool) → nat_lt 0 path.area ≡ t → path.area ≡ black_count (inside path.points) width height
        → odd_by (λ p. inside p.points x y) (kept 0 paths) ≡ odd_by (λ p. inside p.points x y) paths
        → odd_by (λ p. inside p.points x y) (cond t (path ∷ kept 0 paths) (kept 0 paths)) ≡ differ (inside path.points x y) (odd_by (λ p. inside p.points x y) paths)
    one true is area rest = ap (differ (inside path.points x y)) rest
    one false is area rest =
        let nothing : path.area ≡ 0 = elim (cases_lt 0 path.area) [
          | inl some ↦ absurd (false≢true (sym is ∙ lt-ltb 0 path.area some))
          | inr none ↦ omega arith
        ] in
        let outside : inside path.points x y ≡ false = none_inside (inside path.points) width height x y (sym area ∙ nothing) hx hy in
        rest ∙ sym (ap (λ t. differ t (odd_by (λ p. inside p.points x y) paths)) outside)

-- ---- a page has at most as many paths as pixels

few_from : (page : Page) (policy : Policy) (b : Image) (paths : List Path) (width height most : ℕ) → Fits b width height → IsDecomposed page policy b paths
    → ((x y : ℕ) → IsFirstBlack b x y → y * width + (width - x) ≤ most) → length paths ≤ most
few_from page policy b [] width height most fits d bound = omega arith
few_from page policy b (path ∷ paths) width height most fits d bound =
    let n : IsNextPath page policy b path = d.0 in
    let next : Image = inverted b path.points in
    let at = fits n.x n.y n.first.black in
    let place : ℕ = n.y * width + (width - n.x) in
    let here : place ≤ most = bound n.x n.y n.first in
    let fits_next : Fits next width height = fits_inverted page policy b path width height n fits in
    let white : IsWhiteThrough next width n.x n.y = white_through b next policy path.sign n.x n.y width path.points n.first n.walk at.0 (λ u v _. refl) in
    let rest : length paths ≤ place - 1 =
    few_from page policy next paths width height (place - 1) fits_next d.1
    (λ u v first. let fall : v * width + (width - u) < place = places_left_fall next width height n.x n.y (Some (u, v)) fits_next at.0 white first in omega arith) in
    let some : 1 ≤ place = omega (arith, at.0) in
    omega arith

pub few_paths : (page : Page) (policy : Policy) (paths : List Path) → IsPage page → IsDecomposition page policy paths → length paths ≤ page.width * page.height
few_paths page policy paths is_page d =
    let fits = Fits-page page is_page in
    few_from page policy (image_of page) paths page.width page.height (page.width * page.height) fits d
    (λ x y first.
    let at = fits x y first.black in
    let rows : suc y * page.width ≤ page.height * page.width = mul-le (suc y) page.width page.height page.width at.1 (omega arith) in
    omega arith)

-- ---- the page

told_path : (width height : ℕ) (path : Path) → IsPathOn width height path → path.area < 2 ^ 64 → IsToldPath width height path
told_path width height path on area =
    record { area = area; loop = record { least = on.closed.least; corners = on.on_page; steps = on.closed.steps } }

pub traced : (page : Page) (policy : Policy) (all : List Path) → IsPage page → IsDecomposition page policy all → IsFilled (points_text page.width page.height (kept 0 all)) page
traced page policy all is_page d =
    let w : ℕ = page.width in
    let h : ℕ = page.height in
    let on : All (IsPathOn w h) all = page_paths_on page policy all is_page d in
    let area : All (λ path. path.area ≡ black_count (inside path.points) w h) all = areas page policy (image_of page) all d in
    let most : w * h ≤ LONGEST_SIDE * LONGEST_SIDE = mul-le w h LONGEST_SIDE LONGEST_SIDE (omega (arith, is_page.most_width)) (omega (arith, is_page.most_height)) in
    let count : length all ≤ w * h = few_paths page policy all is_page d in
    let small : All (IsToldPath w h) all = λ k path below.
    (let inside_most = rows_le h w (λ y. count_below w (λ x. inside (at k path).points x y)) (λ y. count_below-le w (λ x. inside (at k path).points x y)) in
    told_path w h (at k path) (on k path below) (omega (arith, area k path below, inside_most, most))) in
    record {
      width = w;
      height = h;
      paths = kept 0 all;
      told = record {
        some_width = is_page.some_width;
        most_width = is_page.most_width;
        some_height = is_page.some_height;
        most_height = is_page.most_height;
        few = omega (arith, count, most, kept_le all);
        told = All-filter (λ path. nat_lt 0 path.area) (IsToldPath w h) all small;
        spelled = refl;
      };
      filled =
          sym (page_of-image_of page is_page)
          ∙ page_of-same w h (image_of page) (filled.even_odd (kept 0 all)) is_page.some_width is_page.most_width is_page.some_height is_page.most_height
          (λ x y hx hy.
          even_odd page policy (image_of page) all d x y
          ∙ is_odd-count (λ path. inside path.points x y) all
          ∙ sym (odd_kept w h x y all hx hy area)
          ∙ sym (is_odd-count (λ path. inside path.points x y) (kept 0 all)));
    }
  where
    at : ℕ → Path → Path
    at k path = get_or all k path

    kept_le : (paths : List Path) → length (kept 0 paths) ≤ length paths
    kept_le [] = omega arith
    kept_le (path ∷ paths) = one (nat_lt 0 path.area) (kept_le paths)
      where
        one : (t : Bool) → length (kept 0 paths) ≤ length paths → length (cond t (path ∷ kept 0 paths) (kept 0 paths)) ≤ suc (length paths)
        one true h = omega arith
        one false h = omega arith
