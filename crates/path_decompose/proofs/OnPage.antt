-- A boundary edge lies on the page, and a page has only so many.
use Rattle.std.proofs.Common.{◌≡◌, ◌≢◌, ℕ, zero, suc, ◌+◌, ◌*◌, ◌<◌, ◌≤◌, true, false, eqb, List, [], ◌∷◌, map, length, get_or, AllPairs, All, refl, sym, ◌∙◌, inl, inr, arith}
use Rattle.std.specs.List.{list_any}
use Rattle.std.proofs.lemmas.Bool.{or_cases, eqb-true, false≢true}
use Rattle.std.proofs.lemmas.Bool.Decides.{Decides-eqb}
use Rattle.std.proofs.lemmas.List.{length-map, get_or-map}
use Rattle.std.proofs.lemmas.List.Elements.{All-map, All-head, All-tail}
use Rattle.std.proofs.lemmas.Map.Made.{IsDistinct-from_AllPairs}
use Rattle.std.proofs.lemmas.Map.Steps.{length-le_from_distinct_below}
use Rattle.std.proofs.lemmas.Nat.{same_from_place, mul-add-lt}
use Rattle.bit_image.specs.Image.{Image, Fits, south_west}
use Rattle.turn_policies.specs.declared.heading.Dir.{Dir}
use Rattle.turn_policies.specs.declared.heading.Dir.TheVariants.{North, East, South, West}
use Rattle.turn_policies.specs.declared.edge.Edge.{Edge}
use Rattle.turn_policies.specs.Heading.{end_x, end_y}
use Rattle.turn_policies.specs.Boundary.{IsBoundary, left_pixel, right_pixel}
use Rattle.boundary_edges.specs.Inner.GridEdges.{IsLineOn}
use Rattle.path_decompose.proofs.EdgeLine.{step_line}

-- a step and its line stay on the page
pub record IsStepOn (width height x y : ℕ) (d : Dir) : Type 0 where
  pub column : x ≤ width
  pub row : y ≤ height
  pub end_column : end_x x d ≤ width
  pub end_row : end_y y d ≤ height
  pub line : IsLineOn width height (step_line x y d)

step_on : (b : Image) (width height : ℕ) → Fits b width height → (x y : ℕ) (d : Dir) → left_pixel (south_west b) x y d ≡ true → IsStepOn width height x y d
step_on b width height fits zero y North black = cc
step_on b width height fits (suc x) y North black =
    let at = fits x y black in
    record { column = omega arith; row = omega arith; end_column = omega arith; end_row = omega arith; line = (omega arith, omega arith) }
step_on b width height fits x y East black =
    let at = fits x y black in
    record { column = omega arith; row = omega arith; end_column = omega arith; end_row = omega arith; line = (omega arith, omega arith) }
step_on b width height fits x zero South black = cc
step_on b width height fits x (suc y) South black =
    let at = fits x y black in
    record { column = omega arith; row = omega arith; end_column = omega arith; end_row = omega arith; line = (omega arith, omega arith) }
step_on b width height fits zero y West black = cc
step_on b width height fits (suc x) zero West black = cc
step_on b width height fits (suc x) (suc y) West black =
    let at = fits x y black in
    record { column = omega arith; row = omega arith; end_column = omega arith; end_row = omega arith; line = (omega arith, omega arith) }

-- a boundary edge stays on the page that its image fits
pub edge_on : (b : Image) (width height : ℕ) → Fits b width height → (e : Edge) → IsBoundary b e → IsStepOn width height e.x e.y e.heading
edge_on b width height fits e h = step_on b width height fits e.x e.y e.heading h.black_left

-- 0 for north and east, 1 for south and west
half_of : Dir → ℕ
half_of North = 0
half_of East = 0
half_of South = 1
half_of West = 1

half_below : (d : Dir) → half_of d < 2
unfolding half_of
half_below North = omega arith
half_below East = omega arith
half_below South = omega arith
half_below West = omega arith

-- Two boundary edges that leave one corner are in different halves: the pixel between north and east, and
-- that between south and west, would be white for one of them and black for the other.
half_back : (b : Image) (x y : ℕ) (c d : Dir) → left_pixel (south_west b) x y c ≡ true → right_pixel (south_west b) x y c ≡ false
    → left_pixel (south_west b) x y d ≡ true → right_pixel (south_west b) x y d ≡ false → half_of c ≡ half_of d → c ≡ d
unfolding half_of
half_back b x y North North black white other_black other_white h = refl
half_back b x y North East black white other_black other_white h = absurd (false≢true (sym white ∙ other_black))
half_back b x y North South black white other_black other_white h = absurd (omega arith)
half_back b x y North West black white other_black other_white h = absurd (omega arith)
half_back b x y East North black white other_black other_white h = absurd (false≢true (sym other_white ∙ black))
half_back b x y East East black white other_black other_white h = refl
half_back b x y East South black white other_black other_white h = absurd (omega arith)
half_back b x y East West black white other_black other_white h = absurd (omega arith)
half_back b x y South North black white other_black other_white h = absurd (omega arith)
half_back b x y South East black white other_black other_white h = absurd (omega arith)
half_back b x y South South black white other_black other_white h = refl
half_back b x y South West black white other_black other_white h = absurd (false≢true (sym white ∙ other_black))
half_back b x y West North black white other_black other_white h = absurd (omega arith)
half_back b x y West East black white other_black other_white h = absurd (omega arith)
half_back b x y West South black white other_black other_white h = absurd (false≢true (sym other_white ∙ black))
half_back b x y West West black white other_black other_white h = refl

-- each boundary edge of a page of this width has a number of its own, two a corner
edge_number : ℕ → Edge → ℕ
edge_number width e = (e.y * suc width + e.x) * 2 + half_of e.heading

edge_back : (b : Image) (width : ℕ) (d e : Edge) → IsBoundary b d → IsBoundary b e → d.x ≤ width → e.x ≤ width → edge_number width d ≡ edge_number width e → d ≡ e
unfolding edge_number
edge_back b width d e hd he dx ex same =
    let by_half = same_from_place (d.y * suc width + d.x) (half_of d.heading) (e.y * suc width + e.x) (half_of e.heading) 2 (half_below d.heading) (half_below e.heading) same in
    let by_place = same_from_place d.y d.x e.y e.x (suc width) (omega arith) (omega arith) by_half.0 in
    let black : left_pixel (south_west b) d.x d.y e.heading ≡ true = rw (by_place.0, by_place.1) he.black_left in
    let white : right_pixel (south_west b) d.x d.y e.heading ≡ false = rw (by_place.0, by_place.1) he.white_right in
    let turned = half_back b d.x d.y d.heading e.heading hd.black_left hd.white_right black white by_half.1 in
    rw (by_place.0, by_place.1, turned) refl

edge_number_below : (width height : ℕ) (e : Edge) → e.x ≤ width → e.y ≤ height → edge_number width e < suc width * suc height * 2
unfolding edge_number
edge_number_below width height e ex ey =
    let place = mul-add-lt e.y (suc width) e.x (suc height) (omega arith) (omega arith) in
    let half = half_below e.heading in
    omega arith

below_from_any : (n q : ℕ) (xs : List ℕ) → All (λ x. x < n) xs → list_any (eqb q) xs ≡ true → q < n
below_from_any n q [] all any = cc
below_from_any n q (x ∷ xs) all any =
    elim (or_cases (eqb q x) (list_any (eqb q) xs) any) [
      | inl here ↦ let e = eqb-true q x here in let first = All-head (λ y. y < n) x xs all in omega arith
      | inr later ↦ below_from_any n q xs (All-tail (λ y. y < n) x xs all) later
    ]

-- different boundary edges on a page of this width and height are no more than two at each corner
pub length-distinct : (b : Image) (width height : ℕ) → Fits b width height → (es : List Edge) → All (IsBoundary b) es → AllPairs (λ d e. d ≢ e) es → length es ≤ suc width * suc height * 2
length-distinct b width height fits es boundary distinct =
    let numbers : List ℕ = map (edge_number width) es in
    let some : Edge = record { x = 0; y = 0; heading = North } in
    let on : (k : ℕ) (d : Edge) → k < length es → ((get_or es k d).x ≤ width) × ((get_or es k d).y ≤ height) =
    λ k d short. let on_page = edge_on b width height fits (get_or es k d) (boundary k d short) in (on_page.column, on_page.row) in
    let apart : AllPairs (λ m n. m ≢ n) numbers =
    λ i j n before below same.
    let j_in : j < length es = omega (arith, length-map es (edge_number width)) in
    let i_in : i < length es = omega arith in
    distinct i j some before j_in
    (edge_back b width (get_or es i some) (get_or es j some) (boundary i some i_in) (boundary j some j_in) (on i some i_in).0 (on j some j_in).0
    (sym (get_or-map (edge_number width) es i some n i_in) ∙ same ∙ get_or-map (edge_number width) es j some n j_in)) in
    let below : All (λ n. n < suc width * suc height * 2) numbers = All-map (λ n. n < suc width * suc height * 2) (edge_number width) es (λ k d short. edge_number_below width height (get_or es k d) (on k d short).0 (on k d short).1) in
    omega (arith, length-map es (edge_number width), length-le_from_distinct_below numbers (suc width * suc height * 2) (IsDistinct-from_AllPairs Decides-eqb numbers apart) (λ q any. below_from_any (suc width * suc height * 2) q numbers below any))
