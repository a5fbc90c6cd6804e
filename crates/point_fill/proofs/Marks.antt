-- A mark inverts the swept pixels from its column to the right end of its row.
use Rattle.std.proofs.Common.{◌≡◌, ℕ, zero, suc, ◌+◌, ◌<◌, ◌≤◌, ◌⊎◌, Bool, false, cond, ◌&&◌, nat_eq, nat_abs, min, ℤ, pos, ◌≤ℤ◌, Option, Some, None, refl, ap, sym, ◌∙◌, subst, inl, inr, arith}
use Rattle.std.specs.Prelude.{nat_lt}
use Rattle.std.proofs.lemmas.Bool.{cases_lt, eq-eqb, ne_eqb}
use Rattle.std.proofs.lemmas.Bool.Decides.{nat_tests}
use Rattle.std.proofs.lemmas.Int.{ints}
use Rattle.pt_core.specs.ClosedWalk.{IsNextTo, IsUnitStep}
use Rattle.pt_core.specs.declared.limits.TheConstants.{LONGEST_SIDE}
use Rattle.pt_core.specs.declared.point.Point.{Point}
use Rattle.bit_image.specs.Image.{Image, differ, is_from, is_between}
use Rattle.bit_image.specs.Page.{Page, image_of}
use Rattle.path_decompose.specs.Bounds.{IsCornerOf}
use Rattle.path_decompose.specs.Inside.{is_crossed, line_at, line_between}
use Rattle.path_decompose.specs.GridEdges.{GridEdge, upright, level}
use Rattle.path_decompose.specs.Inner.GridEdges.{place_of, IsLineOn}
use Rattle.boundary_edges.proofs.Differ.{differ-false, differ_swap}
use Rattle.point_fill.specs.Inner.Swept.{odd_below, swept, AreMarked}

pub odd_below-differ : (f g : ℕ → Bool) (n : ℕ) → odd_below (λ k. differ (f k) (g k)) n ≡ differ (odd_below f n) (odd_below g n)
odd_below-differ f g zero = refl
odd_below-differ f g (suc n) = ap (λ t. differ t (differ (f n) (g n))) (odd_below-differ f g n) ∙ differ_swap (odd_below f n) (odd_below g n) (f n) (g n)

pub odd_below-same : (f g : ℕ → Bool) (n : ℕ) → ((k : ℕ) → k < n → f k ≡ g k) → odd_below f n ≡ odd_below g n
odd_below-same f g zero h = refl
odd_below-same f g (suc n) h =
    ap (λ t. differ t (f n)) (odd_below-same f g n (λ k below. h k (omega arith))) ∙ ap (differ (odd_below g n)) (h n (omega arith))

-- a mark in one column counts once from that column on
one_column : (x y v n : ℕ) → odd_below (λ k. is_between x (x + 1) y k v) n ≡ (nat_lt x n && nat_eq y v)
one_column x y v zero = sym (nothing x y v)
  where
    nothing : (x y v : ℕ) → (nat_lt x 0 && nat_eq y v) ≡ false
    nothing x y v = grind (arith, nat_tests)
one_column x y v (suc n) = ap (λ t. differ t (is_between x (x + 1) y n v)) (one_column x y v n) ∙ more (cases_lt x n)
  where
    more : (x < n) ⊎ (n ≤ x) → differ (nat_lt x n && nat_eq y v) (is_between x (x + 1) y n v) ≡ (nat_lt x (suc n) && nat_eq y v)
    more (inl before) = grind (arith, nat_tests)
    more (inr after) = grind (arith, nat_tests)

pub marked_one : (old new : Page) (x y : ℕ) → ((u v : ℕ) → image_of new u v ≡ differ (image_of old u v) (is_between x (x + 1) y u v)) → AreMarked old new (is_from x y)
marked_one old new x y flipped u v left =
    odd_below-same (λ k. image_of new k v) (λ k. differ (image_of old k v) (is_between x (x + 1) y k v)) (suc u) (λ k below. flipped k v)
    ∙ odd_below-differ (λ k. image_of old k v) (λ k. is_between x (x + 1) y k v) (suc u)
    ∙ ap (differ (swept (image_of old) u v)) (one_column x y v (suc u) ∙ same)
  where
    same : (nat_lt x (suc u) && nat_eq y v) ≡ is_from x y u v
    same = grind (arith, nat_tests)

pub marked_none : (page : Page) (f : Image) → ((u v : ℕ) → u < page.width → f u v ≡ false) → AreMarked page page f
marked_none page f none u v left = sym (ap (differ (swept (image_of page) u v)) (none u v left) ∙ differ-false (swept (image_of page) u v))

-- ---- lines

place_in : Option (ℕ × ℕ) → ℕ × ℕ
place_in (Some place) = place
place_in None = (0, 0)

pub upright_is : (l : GridEdge) (x y : ℕ) → place_of l ≡ Some (x, y) → l ≡ upright x y
unfolding place_in
upright_is (upright a b) x y e =
    let column : a ≡ x = ap (λ o. (place_in o).0) e in
    let row : b ≡ y = ap (λ o. (place_in o).1) e in
    ap (λ k. upright k b) column ∙ ap (λ k. upright x k) row
upright_is (level a b) x y e = cc

pub level_uncrossed : (l : GridEdge) (u v : ℕ) → place_of l ≡ None → is_crossed u v l ≡ false
level_uncrossed (upright a b) u v e = cc
level_uncrossed (level a b) u v e = refl

right_of : (x y u v w : ℕ) → w ≤ x → u < w → is_from x y u v ≡ false
right_of x y u v w past left = grind (arith, nat_tests)

pub marked_past : (page : Page) (x y : ℕ) → page.width ≤ x → AreMarked page page (is_from x y)
marked_past page x y past = marked_none page (is_from x y) (λ u v left. right_of x y u v page.width past left)

next_size : (a b : ℤ) → pos 0 ≤ℤ a → pos 0 ≤ℤ b → IsNextTo a b → (nat_abs a ≡ suc (nat_abs b)) ⊎ (nat_abs b ≡ suc (nat_abs a))
next_size a b low low2 (inl e) = inr (omega (arith, ints))
next_size a b low low2 (inr e) = inl (omega (arith, ints))

size_le : (a : ℤ) (n : ℕ) → pos 0 ≤ℤ a → a ≤ℤ pos n → nat_abs a ≤ n
size_le a n low high = omega (arith, ints)

line_on : (w h a b c d : ℕ) → a ≤ w → b ≤ h → c ≤ w → d ≤ h → ((b ≡ d) × ((a ≡ suc c) ⊎ (c ≡ suc a))) ⊎ ((a ≡ c) × ((b ≡ suc d) ⊎ (d ≡ suc b))) → IsLineOn w h (line_at a b c d)
line_on w h a b c d ha hb hc hd (inl along) =
    let apart : nat_eq a c ≡ false = ne_eqb a c (λ e. elim along.1 [ inl l ↦ omega arith | inr r ↦ omega arith ]) in
    subst (λ t. IsLineOn w h (cond t (upright a (min b d)) (level (min a c) b))) (sym apart)
    (elim along.1 [ inl l ↦ (let p : min a c < w = omega arith in p, hb) | inr r ↦ (let p : min a c < w = omega arith in p, hb) ])
line_on w h a b c d ha hb hc hd (inr across) =
    subst (λ t. IsLineOn w h (cond t (upright a (min b d)) (level (min a c) b))) (sym (eq-eqb a c across.0))
    (elim across.1 [ inl l ↦ (ha, let p : min b d < h = omega arith in p) | inr r ↦ (ha, let p : min b d < h = omega arith in p) ])

pub step_on : (w h : ℕ) (p q : Point) → IsCornerOf w h p → IsCornerOf w h q → IsUnitStep p q → IsLineOn w h (line_between p q)
step_on w h p q cp cq step =
    line_on w h (nat_abs p.x) (nat_abs p.y) (nat_abs q.x) (nat_abs q.y) (size_le p.x w cp.from_left cp.to_right) (size_le p.y h cp.from_bottom cp.to_top)
    (size_le q.x w cq.from_left cq.to_right) (size_le q.y h cq.from_bottom cq.to_top)
    (elim step [
      | inl along ↦ inl (ap nat_abs along.0, next_size p.x q.x cp.from_left cq.from_left along.1)
      | inr across ↦ inr (ap nat_abs across.0, next_size p.y q.y cp.from_bottom cq.from_bottom across.1)
    ])

-- the vertical line of a step lies in a row of the page
pub row_within : (w h : ℕ) (p q : Point) (x y : ℕ) → IsCornerOf w h p → IsCornerOf w h q → IsUnitStep p q → place_of (line_between p q) ≡ Some (x, y) → y < h
row_within w h p q x y cp cq step e = (subst (IsLineOn w h) (upright_is (line_between p q) x y e) (step_on w h p q cp cq step)).1

pub marked_line : (old new : Page) (p q : Point) (x y : ℕ) → place_of (line_between p q) ≡ Some (x, y) → AreMarked old new (is_from x y) → AreMarked old new (λ u v. is_crossed u v (line_between p q))
marked_line old new p q x y e marked u v left =
    marked u v left ∙ ap (λ l. differ (swept (image_of old) u v) (is_crossed u v l)) (sym (upright_is (line_between p q) x y e))

pub marked_level : (page : Page) (p q : Point) → place_of (line_between p q) ≡ None → AreMarked page page (λ u v. is_crossed u v (line_between p q))
marked_level page p q e = marked_none page (λ u v. is_crossed u v (line_between p q)) (λ u v left. level_uncrossed (line_between p q) u v e)

-- a corner of a page is a corner of each larger page
pub wider : (w h : ℕ) (p : Point) → w ≤ LONGEST_SIDE → h ≤ LONGEST_SIDE → IsCornerOf w h p → IsCornerOf LONGEST_SIDE LONGEST_SIDE p
wider w h p hw hh c = record {
  from_left = c.from_left;
  to_right = omega (arith, ints, c.to_right);
  from_bottom = c.from_bottom;
  to_top = omega (arith, ints, c.to_top);
}
