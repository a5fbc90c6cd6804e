-- The edges that a path's lines are, and what is left without them.
use Rattle.std.proofs.Common.{◌≡◌, ℕ, zero, suc, ◌+◌, ◌-◌, ◌*◌, ◌/◌, ◌<◌, ◌≤◌, ℤ, pos, ◌≤ℤ◌, nat_abs, Bool, true, false, not, cond, ◌&&◌, ◌⊎◌, nat_le, nat_lt, List, All, length, get_or, count_by, refl, ap, sym, subst, ◌∙◌, inl, inr, arith}
use Rattle.std.proofs.Math.Path.{fun_ext}
use Rattle.std.proofs.lemmas.Int.{ints}
use Rattle.std.proofs.lemmas.Nat.{mul-le}
use Rattle.std.proofs.lemmas.Bool.{cases_lt}
use Rattle.std.proofs.lemmas.Bool.Decides.{nat_tests}
use Rattle.pt_core.specs.declared.limits.TheConstants.{LONGEST_SIDE}
use Rattle.pt_core.specs.declared.point.Point.{Point}
use Rattle.bit_image.specs.Image.{Image, Fits, differ}
use Rattle.bit_image.specs.Page.{Page, SameSides, image_of, page_of}
use Rattle.turn_policies.specs.Majority.{behind}
use Rattle.boundary_edges.specs.Bounds.{IsCornerOf}
use Rattle.boundary_edges.specs.GridEdges.{GridEdge, upright, level, same_line, is_edge}
use Rattle.boundary_edges.specs.Inside.{lines_of, inside}
use Rattle.boundary_edges.specs.Inner.BoundaryBits.{has_edge, changes, AreEdgesOf, bounded_image, AreEdges, is_along, FitsStrips}
use Rattle.boundary_edges.specs.Inner.Taken.{is_along_any}
use Rattle.boundary_edges.proofs.Bounded.{behind-left, behind-low, changes-down, changes-left, bounded_is, image_of-bounded}
use Rattle.boundary_edges.proofs.Differ.{differ_swap, fits_differ}

up_along : (x y : ℕ) (l : GridEdge) → same_line (upright x y) l ≡ is_along 0 (x + 3) (y + 4) l
up_along x y (upright u v) = grind (arith, nat_tests)
up_along x y (level u v) = refl

level_along : (x y : ℕ) (l : GridEdge) → same_line (level x y) l ≡ is_along 1 (x + 4) (y + 3) l
level_along x y (level u v) = grind (arith, nat_tests)
level_along x y (upright u v) = refl

-- outside of the margins an edge lies along one line alone
record IsLineAt (k x y : ℕ) (l : GridEdge) : Type 0 where
  along : (m : GridEdge) → same_line l m ≡ is_along k x y m
  edge : (b : Image) → changes b k x y ≡ is_edge b l

-- in a margin no image has an edge
line_here : (k x y : ℕ) → k < 2 → ((b : Image) → changes b k x y ≡ false) ⊎ ((l : GridEdge) × IsLineAt k x y l)
line_here zero x y p = elim (cases_lt x 3) [
  | inl left ↦ inl (λ b. ap (λ t. differ t (behind b 4 (suc x) y)) (behind-left b x y (omega arith)) ∙ behind-left b (suc x) y (omega arith))
  | inr right ↦ elim (cases_lt y 4) [
    | inl low ↦ inl (λ b. ap (λ t. differ t (behind b 4 (suc x) y)) (behind-low b x y low) ∙ behind-low b (suc x) y low)
    | inr high ↦
        let u : ℕ = x - 3 in
        let v : ℕ = y - 4 in
        let column : x ≡ u + 3 = omega arith in
        let row : y ≡ suc v + 3 = omega arith in
        let place : y ≡ v + 4 = omega arith in
        inr (
          upright u v,
          record {
            along = λ m. up_along u v m ∙ sym (ap (λ n. is_along 0 n y m) column ∙ ap (λ n. is_along 0 (u + 3) n m) place);
            edge = λ b. ap (λ n. changes b 0 n y) column ∙ ap (changes b 0 (u + 3)) row ∙ changes-down b u (suc v);
          },
        )
  ]
]
line_here (suc zero) x y p = elim (cases_lt x 4) [
  | inl left ↦ inl (λ b. ap (λ t. differ t (behind b 4 x (suc y))) (behind-left b x y left) ∙ behind-left b x (suc y) left)
  | inr right ↦ elim (cases_lt y 3) [
    | inl low ↦ inl (λ b. ap (λ t. differ t (behind b 4 x (suc y))) (behind-low b x y (omega arith)) ∙ behind-low b x (suc y) (omega arith))
    | inr high ↦
        let u : ℕ = x - 4 in
        let v : ℕ = y - 3 in
        let column : x ≡ suc u + 3 = omega arith in
        let place : x ≡ u + 4 = omega arith in
        let row : y ≡ v + 3 = omega arith in
        inr (
          level u v,
          record {
            along = λ m. level_along u v m ∙ sym (ap (λ n. is_along 1 n y m) place ∙ ap (λ n. is_along 1 (u + 4) n m) row);
            edge = λ b. ap (λ n. changes b 1 n y) column ∙ ap (changes b 1 (suc u + 3)) row ∙ changes-left b (suc u) v;
          },
        )
  ]
]
line_here (suc (suc k)) x y p = absurd (omega arith)

-- an edge is taken away where it is turned
taken_is : (edge turned : Bool) (count : ℕ) → count ≡ cond turned 1 0 → (turned ≡ true → edge ≡ true) → edge && not (nat_lt 0 count) ≡ differ edge turned
taken_is true true count is there = rw is refl
taken_is true false count is there = rw is refl
taken_is false true count is there = absurd (let no : false ≡ true = there refl in cc)
taken_is false false count is there = refl

-- a path runs once along each edge of its inside, and along no other line
abbrev RunsOnce : List Point → Type 0
RunsOnce points = (l : GridEdge) → count_by (same_line l) (lines_of points) ≡ cond (is_edge (inside points) l) 1 0

-- all these are edges of an image
abbrev HasEdges : Image → List Point → Type 0
HasEdges b points = (l : GridEdge) → is_edge (inside points) l ≡ true → is_edge b l ≡ true

taken_here : (b : Image) (points : List Point) → RunsOnce points → HasEdges b points → (k x y : ℕ) → k < 2
    → changes b k x y && not (is_along_any (lines_of points) k x y) ≡ differ (changes b k x y) (changes (inside points) k x y)
taken_here b points once there k x y p = elim (line_here k x y p) [
  | inl none ↦
      ap (λ t. t && not (is_along_any (lines_of points) k x y)) (none b)
      ∙ sym (ap (λ t. differ t (changes (inside points) k x y)) (none b) ∙ none (inside points))
  | inr line ↦
      let l : GridEdge = line.0 in
      let same : same_line l ≡ is_along k x y = fun_ext line.1.along in
      let count : count_by (is_along k x y) (lines_of points) ≡ cond (is_edge (inside points) l) 1 0 =
      subst (λ f. count_by f (lines_of points) ≡ cond (is_edge (inside points) l) 1 0) same (once l) in
      ap (λ t. t && not (is_along_any (lines_of points) k x y)) (line.1.edge b)
      ∙ taken_is (is_edge b l) (is_edge (inside points) l) (count_by (is_along k x y) (lines_of points)) count (there l)
      ∙ sym (ap (λ t. differ t (changes (inside points) k x y)) (line.1.edge b) ∙ ap (differ (is_edge b l)) (line.1.edge (inside points)))
]

-- ---- what is left

behind-differ : (b i : Image) (x y : ℕ) → behind (λ u v. differ (b u v) (i u v)) 4 x y ≡ differ (behind b 4 x y) (behind i 4 x y)
behind-differ b i x y = go (nat_le 4 x && nat_le 4 y) (b (x - 4) (y - 4)) (i (x - 4) (y - 4))
  where
    go : (t p q : Bool) → t && differ p q ≡ differ (t && p) (t && q)
    go true p q = refl
    go false p q = refl

changes-differ : (b i : Image) (k x y : ℕ) → changes (λ u v. differ (b u v) (i u v)) k x y ≡ differ (changes b k x y) (changes i k x y)
changes-differ b i zero x y =
    ap (λ t. differ t (behind (λ u v. differ (b u v) (i u v)) 4 (suc x) y)) (behind-differ b i x y)
    ∙ ap (differ (differ (behind b 4 x y) (behind i 4 x y))) (behind-differ b i (suc x) y)
    ∙ differ_swap (behind b 4 x y) (behind i 4 x y) (behind b 4 (suc x) y) (behind i 4 (suc x) y)
changes-differ b i (suc k) x y =
    ap (λ t. differ t (behind (λ u v. differ (b u v) (i u v)) 4 x (suc y))) (behind-differ b i x y)
    ∙ ap (differ (differ (behind b 4 x y) (behind i 4 x y))) (behind-differ b i x (suc y))
    ∙ differ_swap (behind b 4 x y) (behind i 4 x y) (behind b 4 x (suc y)) (behind i 4 x (suc y))

-- the image with the pixels inside a path turned
abbrev turned_inside : Image → List Point → Image
turned_inside b points x y = differ (b x y) (inside points x y)

-- without the edges along a path's lines, those of the image inverted inside it are left
edges_left : (b : Image) (rows : ℕ) (old new : List ℕ) (points : List Point) → RunsOnce points → HasEdges b points → AreEdgesOf b rows old
    → ((k x y : ℕ) → k < 2 → has_edge rows new k x y ≡ has_edge rows old k x y && not (is_along_any (lines_of points) k x y)) → AreEdgesOf (turned_inside b points) rows new
edges_left b rows old new points once there edges taken k x y p =
    taken k x y p
    ∙ ap (λ t. t && not (is_along_any (lines_of points) k x y)) (edges k x y p)
    ∙ taken_here b points once there k x y p
    ∙ sym (changes-differ b (inside points) k x y)

-- so the words are those of a page again
pub left_page : (w h rows strips : ℕ) (old new : List ℕ) (page : Page) (points : List Point) → AreEdges w h rows strips old → page_of w h (bounded_image rows old) ≡ page → length new ≡ length old
    → Fits (inside points) page.width page.height → ((l : GridEdge) → count_by (same_line l) (lines_of points) ≡ cond (is_edge (inside points) l) 1 0)
    → ((l : GridEdge) → is_edge (inside points) l ≡ true → is_edge (image_of page) l ≡ true)
    → ((k x y : ℕ) → k < 2 → has_edge rows new k x y ≡ has_edge rows old k x y && not (is_along_any (lines_of points) k x y))
    → AreEdges w h rows strips new × SameSides page (page_of w h (bounded_image rows new))
    × ((u v : ℕ) → image_of (page_of w h (bounded_image rows new)) u v ≡ differ (image_of page u v) (inside points u v))
left_page w h rows strips old new page points a is size on_page once there taken =
    let shown : image_of page ≡ bounded_image rows old = ap image_of (sym is) ∙ image_of-bounded w h (bounded_image rows old) a.fits in
    let b : Image = image_of page in
    let edges : AreEdgesOf b rows old = subst (λ i. AreEdgesOf i rows old) (sym shown) a.edges in
    let left : AreEdgesOf (turned_inside b points) rows new = edges_left b rows old new points once there edges taken in
    let image : bounded_image rows new ≡ turned_inside b points = bounded_is (turned_inside b points) rows new left in
    let fits : Fits b w h = subst (λ i. Fits i w h) (sym shown) a.fits in
    let within : Fits (inside points) w h = subst (λ (q : Page). Fits (inside points) q.width q.height) (sym is) on_page in
    let still : Fits (turned_inside b points) w h = fits_differ b (inside points) w h fits within in
    let fits_new : Fits (bounded_image rows new) w h = subst (λ i. Fits i w h) (sym image) still in (
      record {
        some_width = a.some_width;
        most_width = a.most_width;
        some_height = a.some_height;
        most_height = a.most_height;
        row_count = a.row_count;
        strip_count = a.strip_count;
        word_count = size ∙ a.word_count;
        fits = fits_new;
        edges = subst (λ i. AreEdgesOf i rows new) (sym image) left;
      },
      record { width = ap (λ (p : Page). p.width) is; height = ap (λ (p : Page). p.height) is },
      λ u v. ap (λ i. i u v) (image_of-bounded w h (bounded_image rows new) fits_new ∙ image),
    )

-- a corner of the page has room
room_of : (w h rows strips size : ℕ) (p : Point) → w ≤ LONGEST_SIDE → h ≤ LONGEST_SIDE → rows ≡ 8 * (h / 8 + 2) → strips ≡ w / 64 + 2 → size ≡ 2 * (strips * rows) → IsCornerOf w h p → FitsStrips rows size p
room_of w h rows strips size p narrow low row_count strip_count words corner =
    let x : nat_abs p.x ≤ w = natural p.x w corner.from_left corner.to_right in
    let y : nat_abs p.y ≤ h = natural p.y h corner.from_bottom corner.to_top in
    let strip : (nat_abs p.x + 3) / 64 + 1 ≤ strips = omega arith in
    let all : ((nat_abs p.x + 3) / 64 + 1) * rows ≤ strips * rows = mul-le ((nat_abs p.x + 3) / 64 + 1) rows strips rows strip (omega arith) in
    record { right = corner.from_left; above = corner.from_bottom; column = omega arith; row = omega arith; height = omega arith; room = omega arith }
  where
    natural : (a : ℤ) (n : ℕ) → pos 0 ≤ℤ a → a ≤ℤ pos n → nat_abs a ≤ n
    natural a n low high = omega (arith, ints)

pub rooms : (w h rows strips : ℕ) (words : List ℕ) (page : Page) (points : List Point) → AreEdges w h rows strips words → page_of w h (bounded_image rows words) ≡ page
    → All (IsCornerOf page.width page.height) points → All (FitsStrips rows (length words)) points
rooms w h rows strips words page points a is corners =
    let on : All (IsCornerOf w h) points = subst (λ (q : Page). All (IsCornerOf q.width q.height) points) (sym is) corners in
    λ k d below. room_of w h rows strips (length words) (get_or points k d) a.most_width a.most_height a.row_count a.strip_count a.word_count (on k d below)
