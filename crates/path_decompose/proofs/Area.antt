-- As many pixels are inside a path as the columns of the lines that it goes up come to more than those that it goes down.
use Rattle.std.proofs.Common.{◌≡◌, ℕ, zero, suc, pred, ◌+◌, ◌-◌, ◌<◌, ◌≤◌, Bool, true, false, not, cond, ◌&&◌, nat_eq, nat_le, nat_lt, List, [], ◌∷◌, length, get_or, All, count_by, sum_by, refl, ap, sym, ◌∙◌, inl, inr, arith}
use Rattle.std.proofs.lemmas.Bool.{cases_Bool, false≢true}
use Rattle.std.proofs.lemmas.Bool.Decides.{nat_tests}
use Rattle.std.proofs.lemmas.List.Sums.{sum_by-cons}
use Rattle.std.proofs.lemmas.List.Elements.{All-head, All-tail}
use Rattle.pt_core.specs.declared.path.Sign.{Sign}
use Rattle.pt_core.specs.declared.policy.Policy.{Policy}
use Rattle.bit_image.specs.Image.{Image, Fits, south_west, differ}
use Rattle.bit_image.specs.FirstBlack.{IsFirstBlack}
use Rattle.turn_policies.specs.Majority.{count_below, sum_below}
use Rattle.turn_policies.specs.declared.heading.Dir.{Dir}
use Rattle.turn_policies.specs.declared.heading.Dir.TheVariants.{North, East, South, West}
use Rattle.turn_policies.specs.declared.edge.Edge.{Edge}
use Rattle.turn_policies.specs.Boundary.{IsBoundary, left_pixel, right_pixel}
use Rattle.turn_policies.proofs.SumsBelow.{sum_below-same, sum_below-add, count_below-sum, sum_below-zero, sum_below-at, sum_below-if}
use Rattle.boundary_edges.specs.Inside.{black_count}
use Rattle.boundary_edges.specs.GridEdges.{GridEdge, upright, level, same_line}
use Rattle.boundary_edges.specs.Inner.GridEdges.{IsLineOn}
use Rattle.path_decompose.specs.Inner.Trail.{column_if_up, column_if_down, column_up, column_down}
use Rattle.path_decompose.specs.Walk.{first_edge}
use Rattle.path_decompose.proofs.Beyond.{all_lines_on, fits_within, white_off}
use Rattle.path_decompose.proofs.Cut.{is_edge-inside_edges}
use Rattle.path_decompose.proofs.EdgeLine.{step_line, line_of, inside_edges}
use Rattle.path_decompose.proofs.Once.{same_line-true, none_passes, count_by-line}
use Rattle.path_decompose.proofs.Round.{IsCircuit}
use Rattle.path_decompose.proofs.Sides.{boundary_within}

-- whether a step goes up, and whether it goes down
abbrev is_up : Dir → Bool
is_up North = true
is_up East = false
is_up South = false
is_up West = false

abbrev is_down : Dir → Bool
is_down North = false
is_down East = false
is_down South = true
is_down West = false

-- ---- counting over a list

count_by-cons : {A : Type 0} (f : A → Bool) (x : A) (xs : List A) → count_by f (x ∷ xs) ≡ cond (f x) 1 0 + count_by f xs
count_by-cons f x xs = sum_by-cons (λ w. cond (f w) 1 0) x xs

-- each element that passes the first test passes one of two others
count_by-split : {A : Type 0} (f g h : A → Bool) → ((x : A) → cond (f x) 1 0 ≡ cond (g x) 1 0 + cond (h x) 1 0) → (xs : List A) → count_by f xs ≡ count_by g xs + count_by h xs
count_by-split f g h split [] = refl
count_by-split f g h split (x ∷ xs) =
    omega (arith, count_by-cons f x xs, count_by-cons g x xs, count_by-cons h x xs, split x, count_by-split f g h split xs)

count_by-agree : {A : Type 0} (f g : A → Bool) (xs : List A) → All (λ x. f x ≡ g x) xs → count_by f xs ≡ count_by g xs
count_by-agree f g [] h = refl
count_by-agree f g (x ∷ xs) h =
    count_by-cons f x xs
    ∙ ap (λ t. cond t 1 0 + count_by f xs) (All-head (λ y. f y ≡ g y) x xs h)
    ∙ ap (λ n. cond (g x) 1 0 + n) (count_by-agree f g xs (All-tail (λ y. f y ≡ g y) x xs h))
    ∙ sym (count_by-cons g x xs)

-- ---- the edges along one line

-- the column and the row that a line starts from
abbrev column_of : GridEdge → ℕ
column_of (upright x y) = x
column_of (level x y) = x

abbrev row_of : GridEdge → ℕ
row_of (upright x y) = y
row_of (level x y) = y

-- an edge along an upright line goes up where the pixel on the left side of the line is the black one, and else down
way_of : (w : Image) (x y u v : ℕ) (d : Dir) → left_pixel (south_west w) u v d ≡ true → right_pixel (south_west w) u v d ≡ false → upright x y ≡ step_line u v d
    → (is_up d ≡ south_west w x (suc y)) × (is_down d ≡ not (south_west w x (suc y)))
way_of w x y u v North black white e =
    let column : x ≡ u = ap column_of e in
    let row : y ≡ v = ap row_of e in
    let left : south_west w x (suc y) ≡ true = ap (λ n. south_west w n (suc y)) column ∙ ap (λ n. south_west w u (suc n)) row ∙ black in
    (sym left, sym (ap not left))
way_of w x y u v East black white e = cc
way_of w x y u zero South black white e = absurd (false≢true black)
way_of w x y u (suc v) South black white e =
    let column : x ≡ u = ap column_of e in
    let row : y ≡ v = ap row_of e in
    let left : south_west w x (suc y) ≡ false = ap (λ n. south_west w n (suc y)) column ∙ ap (λ n. south_west w u (suc n)) row ∙ white in
    (sym left, sym (ap not left))
way_of w x y u v West black white e = cc

-- how many edges of a list go up, or down, along a line
abbrev along_line : (Dir → Bool) → List Edge → GridEdge → ℕ
along_line way es l = count_by (λ e. way e.heading && same_line l (line_of e)) es

and_when : (t g : Bool) → (g ≡ true → t ≡ true) → t && g ≡ g
and_when t true h = ap (λ s. s && true) (h refl)
and_when true false h = refl
and_when false false h = refl

and_unless : (t g : Bool) → (g ≡ true → t ≡ false) → t && g ≡ false
and_unless t true h = ap (λ s. s && true) (h refl)
and_unless true false h = refl
and_unless false false h = refl

cond_not : (p : Bool) → 1 ≡ cond p 1 0 + cond (differ true p) 1 0
cond_not true = refl
cond_not false = refl

-- of the two pixels beside a line the left one is black and an edge goes up between them, or the right one and an edge goes down,
-- or both are of one colour and none does
across_line : (b : Image) (policy : Policy) (sign : Sign) (x y : ℕ) (es : List Edge) → IsFirstBlack b x y → IsCircuit b policy sign (first_edge x y) es → (u v : ℕ)
    → cond (south_west (inside_edges es) u (suc v)) 1 0 + along_line is_down es (upright u v) ≡ cond (inside_edges es u v) 1 0 + along_line is_up es (upright u v)
across_line b policy sign x y es first c u v =
    let w : Image = inside_edges es in
    let l : GridEdge = upright u v in
    let at : Edge → Bool = λ e. same_line l (line_of e) in
    let left : Bool = south_west w u (suc v) in
    let edges = boundary_within b policy sign x y es first c in
    let way : (k : ℕ) (d : Edge) → k < length es → at (get_or es k d) ≡ true → (is_up (get_or es k d).heading ≡ left) × (is_down (get_or es k d).heading ≡ not left) =
    λ k d below passes.
    let e : Edge = get_or es k d in
    let h : IsBoundary w e = edges k d below in
    way_of w u v e.x e.y e.heading h.black_left h.white_right (same_line-true l (line_of e) passes) in
    let whole : count_by at es ≡ cond (differ left (w u v)) 1 0 =
    count_by-line b policy sign (first_edge x y) es c l
    ∙ ap (λ t. cond t 1 0) (sym (is_edge-inside_edges b policy sign (first_edge x y) es c.boundary c.closes l)) in
    elim (cases_Bool left) [
      | inl black ↦
          let up : along_line is_up es l ≡ count_by at es = count_by-agree (λ e. is_up e.heading && at e) at es
          (λ k d below. and_when _ _ (λ passes. (way k d below passes).0 ∙ black)) in
          let down : along_line is_down es l ≡ 0 = (none_passes (λ e. is_down e.heading && at e) es
          (λ k d below. and_unless _ _ (λ passes. (way k d below passes).1 ∙ ap not black))).1 in
          let one : ℕ = cond left 1 0 in
          let here : one ≡ 1 = ap (λ t. cond t 1 0) black in
          let count : count_by at es ≡ cond (differ true (w u v)) 1 0 = whole ∙ ap (λ t. cond (differ t (w u v)) 1 0) black in
          omega (arith, here, up, down, count, cond_not (w u v))
      | inr white ↦
          let up : along_line is_up es l ≡ 0 = (none_passes (λ e. is_up e.heading && at e) es
          (λ k d below. and_unless _ _ (λ passes. (way k d below passes).0 ∙ white))).1 in
          let down : along_line is_down es l ≡ count_by at es = count_by-agree (λ e. is_down e.heading && at e) at es
          (λ k d below. and_when _ _ (λ passes. (way k d below passes).1 ∙ ap not white)) in
          let one : ℕ = cond left 1 0 in
          let here : one ≡ 0 = ap (λ t. cond t 1 0) white in
          let count : count_by at es ≡ cond (w u v) 1 0 = whole ∙ ap (λ t. cond (differ t (w u v)) 1 0) white in
          omega (arith, here, up, down, count)
    ]

-- ---- the lines right of a pixel

-- the line stands in row y, right of pixel (x, y)
abbrev is_right_of : ℕ → ℕ → GridEdge → Bool
is_right_of x y (upright u v) = nat_lt x u && nat_eq v y
is_right_of x y (level u v) = false

-- how many edges of a list go up, or down, right of a pixel in its row
abbrev right_of_pixel : (Dir → Bool) → List Edge → ℕ → ℕ → ℕ
right_of_pixel way es x y = count_by (λ e. way e.heading && is_right_of x y (line_of e)) es

first_right : (t : Bool) (x y : ℕ) (l : GridEdge) → cond (t && is_right_of x y l) 1 0 ≡ cond (t && is_right_of (suc x) y l) 1 0 + cond (t && same_line (upright (suc x) y) l) 1 0
first_right false x y l = refl
first_right true x y (upright u v) = grind (arith, nat_tests)
first_right true x y (level u v) = refl

not_right : (width height x y : ℕ) (l : GridEdge) → IsLineOn width height l → width ≤ x → is_right_of x y l ≡ false
not_right width height x y (upright u v) on right = grind (arith, nat_tests)
not_right width height x y (level u v) on right = refl

-- a pixel is inside where more edges go up than down right of it in its row
balance : (b : Image) (policy : Policy) (sign : Sign) (x y : ℕ) (es : List Edge) → IsFirstBlack b x y → IsCircuit b policy sign (first_edge x y) es
    → (width height : ℕ) → Fits b width height → (k u v : ℕ) → u + k ≡ width
    → cond (inside_edges es u v) 1 0 + right_of_pixel is_down es u v ≡ right_of_pixel is_up es u v
balance b policy sign x y es first c width height fits zero u v last =
    let on = all_lines_on b policy sign (first_edge x y) es c width height fits in
    let none : (way : Dir → Bool) → right_of_pixel way es u v ≡ 0 =
    λ way. (none_passes (λ e. way e.heading && is_right_of u v (line_of e)) es
    (λ k d below. and_unless _ _ (λ passes. absurd (false≢true (sym (not_right width height u v (line_of (get_or es k d)) (on k d below) (omega arith)) ∙ passes))))).1 in
    let white : inside_edges es u v ≡ false = white_off (inside_edges es) width height u v (fits_within b policy sign (first_edge x y) es c width height fits) (omega arith) in
    let one : ℕ = cond (inside_edges es u v) 1 0 in
    let out : one ≡ 0 = ap (λ t. cond t 1 0) white in
    omega (arith, out, none is_down, none is_up)
balance b policy sign x y es first c width height fits (suc k) u v left =
    let rest = balance b policy sign x y es first c width height fits k (suc u) v (omega arith) in
    let here = across_line b policy sign x y es first c (suc u) v in
    let split : (way : Dir → Bool) → right_of_pixel way es u v ≡ right_of_pixel way es (suc u) v + along_line way es (upright (suc u) v) =
    λ way. count_by-split (λ e. way e.heading && is_right_of u v (line_of e)) (λ e. way e.heading && is_right_of (suc u) v (line_of e)) (λ e. way e.heading && same_line (upright (suc u) v) (line_of e))
    (λ e. first_right (way e.heading) u v (line_of e)) es in
    omega (arith, rest, here, split is_up, split is_down)

-- ---- sums over the page

-- a sum over the pixels of a page
abbrev over_page : ℕ → ℕ → (ℕ → ℕ → ℕ) → ℕ
over_page width height f = sum_below height (λ y. sum_below width (λ x. f x y))

over_page-add : (width height : ℕ) (f g : ℕ → ℕ → ℕ) → over_page width height (λ x y. f x y + g x y) ≡ over_page width height f + over_page width height g
over_page-add width height f g =
    sum_below-same height (λ y. sum_below width (λ x. f x y + g x y)) (λ y. sum_below width (λ x. f x y) + sum_below width (λ x. g x y))
    (λ y short. sum_below-add width (λ x. f x y) (λ x. g x y))
    ∙ sum_below-add height (λ y. sum_below width (λ x. f x y)) (λ y. sum_below width (λ x. g x y))

over_page-same : (width height : ℕ) (f g : ℕ → ℕ → ℕ) → ((x y : ℕ) → x < width → f x y ≡ g x y) → over_page width height f ≡ over_page width height g
over_page-same width height f g same =
    sum_below-same height (λ y. sum_below width (λ x. f x y)) (λ y. sum_below width (λ x. g x y)) (λ y short. sum_below-same width (λ x. f x y) (λ x. g x y) (λ x left. same x y left))

over_page-zero : (width height : ℕ) → over_page width height (λ x y. 0) ≡ 0
over_page-zero width height = sum_below-same height (λ y. sum_below width (λ x. 0)) (λ y. 0) (λ y short. sum_below-zero width) ∙ sum_below-zero height

black_count-sum : (i : Image) (width height : ℕ) → black_count i width height ≡ over_page width height (λ x y. cond (i x y) 1 0)
black_count-sum i width height =
    sum_below-same height (λ y. count_below width (λ x. i x y)) (λ y. sum_below width (λ x. cond (i x y) 1 0)) (λ y short. count_below-sum width (λ x. i x y))

-- of the first n numbers those below a are a
sum_below-to : (n a : ℕ) → sum_below n (λ k. cond (nat_lt k a) 1 0) ≡ cond (nat_le a n) a n
sum_below-to zero a = grind (arith, nat_tests)
sum_below-to (suc n) a =
    let rest : sum_below n (λ k. cond (nat_lt k a) 1 0) ≡ cond (nat_le a n) a n = sum_below-to n a in
    grind (arith, nat_tests)

cond_within : (c width : ℕ) → c ≤ width → cond (nat_le c width) c width ≡ c
cond_within c width p = grind (arith, nat_tests)

-- the pixels of a page left of an upright line, in its row
left_of_line : (width height c r : ℕ) → c ≤ width → r < height → over_page width height (λ x y. cond (nat_lt x c && nat_eq r y) 1 0) ≡ c
left_of_line width height c r narrow low =
    sum_below-same height (λ y. sum_below width (λ x. cond (nat_lt x c && nat_eq r y) 1 0)) (λ y. cond (nat_eq r y) c 0)
    (λ y short. sum_below-if width (nat_eq r y) (λ x. nat_lt x c) ∙ ap (λ n. cond (nat_eq r y) n 0) (sum_below-to width c ∙ cond_within c width narrow))
    ∙ sum_below-at height r c
    ∙ above height r c low
  where
    above : (height r c : ℕ) → r < height → cond (nat_le height r) 0 c ≡ c
    above height r c low = grind (arith, nat_tests)

-- so many pixels has an edge's row left of its line, where it goes that way
one_edge : (way : Dir → Bool) → way East ≡ false → way West ≡ false → (width height : ℕ) (x y : ℕ) (d : Dir) → IsLineOn width height (step_line x y d)
    → over_page width height (λ u v. cond (way d && is_right_of u v (step_line x y d)) 1 0) ≡ cond (way d) x 0
one_edge way east west width height x y North on = one_way (way North) width height x y on.0 on.1
  where
    one_way : (t : Bool) (width height x y : ℕ) → x ≤ width → y < height → over_page width height (λ u v. cond (t && (nat_lt u x && nat_eq y v)) 1 0) ≡ cond t x 0
    one_way true width height x y narrow low = left_of_line width height x y narrow low
    one_way false width height x y narrow low = over_page-zero width height
one_edge way east west width height x y South on = one_way (way South) width height x (pred y) on.0 on.1
  where
    one_way : (t : Bool) (width height x y : ℕ) → x ≤ width → y < height → over_page width height (λ u v. cond (t && (nat_lt u x && nat_eq y v)) 1 0) ≡ cond t x 0
    one_way true width height x y narrow low = left_of_line width height x y narrow low
    one_way false width height x y narrow low = over_page-zero width height
one_edge way east west width height x y East on =
    ap (λ t. over_page width height (λ u v. cond (t && false) 1 0)) east ∙ over_page-zero width height ∙ sym (ap (λ t. cond t x 0) east)
one_edge way east west width height x y West on =
    ap (λ t. over_page width height (λ u v. cond (t && false) 1 0)) west ∙ over_page-zero width height ∙ sym (ap (λ t. cond t x 0) west)

-- the columns of the edges that go one way
abbrev columns_of : (Dir → Bool) → List Edge → ℕ
columns_of way es = sum_by (λ e. cond (way e.heading) e.x 0) es

-- counted pixel by pixel and edge by edge
columns : (way : Dir → Bool) → way East ≡ false → way West ≡ false → (width height : ℕ) (es : List Edge) → All (λ e. IsLineOn width height (line_of e)) es
    → over_page width height (λ u v. right_of_pixel way es u v) ≡ columns_of way es
columns way east west width height [] on = over_page-zero width height
columns way east west width height (e ∷ es) on =
    let first : ℕ → ℕ → ℕ = λ u v. cond (way e.heading && is_right_of u v (line_of e)) 1 0 in
    over_page-same width height (λ u v. right_of_pixel way (e ∷ es) u v) (λ u v. first u v + right_of_pixel way es u v)
    (λ u v left. count_by-cons (λ f. way f.heading && is_right_of u v (line_of f)) e es)
    ∙ over_page-add width height first (λ u v. right_of_pixel way es u v)
    ∙ ap (λ n. n + over_page width height (λ u v. right_of_pixel way es u v)) (one_edge way east west width height e.x e.y e.heading (All-head (λ f. IsLineOn width height (line_of f)) e es on))
    ∙ ap (λ n. cond (way e.heading) e.x 0 + n) (columns way east west width height es (All-tail (λ f. IsLineOn width height (line_of f)) e es on))
    ∙ sym (sum_by-cons (λ f. cond (way f.heading) f.x 0) e es)

-- the same by each edge's heading
sum_by-same : (f g : Edge → ℕ) → ((e : Edge) → f e ≡ g e) → (es : List Edge) → sum_by f es ≡ sum_by g es
sum_by-same f g same [] = refl
sum_by-same f g same (e ∷ es) = omega (arith, sum_by-cons f e es, sum_by-cons g e es, same e, sum_by-same f g same es)

if_up : (x : ℕ) (d : Dir) → column_if_up x d ≡ cond (is_up d) x 0
if_up x North = refl
if_up x East = refl
if_up x South = refl
if_up x West = refl

if_down : (x : ℕ) (d : Dir) → column_if_down x d ≡ cond (is_down d) x 0
if_down x North = refl
if_down x East = refl
if_down x South = refl
if_down x West = refl

-- what the columns come to
pub circuit_area : (b : Image) (policy : Policy) (sign : Sign) (x y : ℕ) (es : List Edge) → IsFirstBlack b x y → IsCircuit b policy sign (first_edge x y) es → (width height : ℕ) → Fits b width height
    → black_count (inside_edges es) width height + sum_by column_down es ≡ sum_by column_up es
circuit_area b policy sign x y es first c width height fits =
    let on = all_lines_on b policy sign (first_edge x y) es c width height fits in
    let sums : over_page width height (λ u v. cond (inside_edges es u v) 1 0) + over_page width height (λ u v. right_of_pixel is_down es u v) ≡ over_page width height (λ u v. right_of_pixel is_up es u v) =
    sym (over_page-add width height (λ u v. cond (inside_edges es u v) 1 0) (λ u v. right_of_pixel is_down es u v))
    ∙ over_page-same width height (λ u v. cond (inside_edges es u v) 1 0 + right_of_pixel is_down es u v) (λ u v. right_of_pixel is_up es u v)
    (λ u v left. balance b policy sign x y es first c width height fits (width - u) u v (omega arith)) in
    omega (
      arith,
      sums,
      black_count-sum (inside_edges es) width height,
      columns is_up refl refl width height es on,
      columns is_down refl refl width height es on,
      sum_by-same column_up (λ e. cond (is_up e.heading) e.x 0) (λ e. if_up e.x e.heading) es,
      sum_by-same column_down (λ e. cond (is_down e.heading) e.x 0) (λ e. if_down e.x e.heading) es,
    )
