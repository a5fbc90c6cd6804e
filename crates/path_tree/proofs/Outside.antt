-- A pixel outside the bounds of a path isn't inside the path.
use Rattle.std.proofs.Common.{◌≡◌, ℕ, ◌/◌, ◌%◌, ◌*◌, ◌+◌, ◌<◌, ◌≤◌, ◌⊎◌, ◌-◌, Bool, true, false, cond, ◌&&◌, min, Option, length, get_or, take, drop, nat_abs, nat_eq, nat_le, nat_lt, List, [], ◌∷◌, All, refl, ap, sym, ◌∙◌, inl, inr, arith}
use Rattle.std.specs.List.Sorted.{IsPartitionPoint}
use Rattle.std.proofs.Math.Decide.{dec_lt}
use Rattle.std.proofs.lemmas.Bool.Decides.{nat_tests}
use Rattle.std.proofs.lemmas.List.{length-take, length-drop, get_or-take, get_or-drop}
use Rattle.std.proofs.lemmas.List.Elements.{All-head, All-tail}
use Rattle.bit_image.specs.Image.{differ}
use Rattle.pt_core.specs.declared.point.Point.{Point}
use Rattle.pt_core.specs.ClosedWalk.{IsClosedWalk}
use Rattle.path_decompose.specs.Bounds.{IsCornerOf}
use Rattle.path_decompose.specs.Inside.{line_between, lines_to, lines_of, is_crossed, inside}
use Rattle.path_decompose.specs.GridEdges.{GridEdge, upright, level, is_in_row}
use Rattle.path_decompose.proofs.Parity.{odd_by, is_odd-count}
use Rattle.path_tree.specs.declared.bounds.Bounds.{Bounds}
use Rattle.path_tree.specs.declared.starts.PathStart.{PathStart}
use Rattle.path_tree.specs.declared.starts.TheConstants.{ROW}
use Rattle.path_tree.specs.Inner.Candidates.{IsInBounds, is_candidate, is_held}
use Rattle.path_tree.specs.Inner.Starts.{marked}
use Rattle.path_tree.proofs.Even.{even_rows}
use Rattle.path_tree.proofs.MarkedPaths.{and-false, marked-none, no_marking}

-- two tests that agree on each line of a walk count the same
module _ (f g : GridEdge → Bool) (P : Point → Type 0) (agree : (p q : Point) → P p → P q → f (line_between p q) ≡ g (line_between p q)) where
  same_to : (end p : Point) (qs : List Point) → P end → P p → All P qs → odd_by f (lines_to end p qs) ≡ odd_by g (lines_to end p qs)
  same_to end p [] he hp hs = ap (λ b. differ b false) (agree p end hp he)
  same_to end p (q ∷ qs) he hp hs =
      ap (λ b. differ b (odd_by f (lines_to end q qs))) (agree p q hp (All-head P q qs hs))
      ∙ ap (differ (g (line_between p q))) (same_to end q qs he (All-head P q qs hs) (All-tail P q qs hs))

  same_of : (points : List Point) → All P points → odd_by f (lines_of points) ≡ odd_by g (lines_of points)
  same_of [] all = refl
  same_of (p ∷ ps) all = same_to p p ps (All-head P p ps all) (All-head P p ps all) (All-tail P p ps all)

-- if no line is crossed, the count is even
none : (lines : List GridEdge) → odd_by (λ _. false) lines ≡ false
none [] = refl
none (line ∷ lines) = none lines

-- a line that isn't crossed
not_crossed : (t : Bool) (px py qx qy x y : ℕ) → (nat_le px x && nat_eq (min py qy) y) ≡ false
    → is_crossed x y (cond t (upright px (min py qy)) (level (min px qx) py)) ≡ false
not_crossed true px py qx qy x y h = h
not_crossed false px py qx qy x y h = refl

-- a line that is crossed exactly if it lies in the row
crossed_in_row : (t : Bool) (px py qx qy x y : ℕ) → (nat_le px x && nat_eq (min py qy) y) ≡ nat_eq (min py qy) y
    → is_crossed x y (cond t (upright px (min py qy)) (level (min px qx) py)) ≡ is_in_row y (cond t (upright px (min py qy)) (level (min px qx) py))
crossed_in_row true px py qx qy x y h = h
crossed_in_row false px py qx qy x y h = refl

left_out : (px py qy x y left : ℕ) → left ≤ px → x < left → (nat_le px x && nat_eq (min py qy) y) ≡ false
left_out px py qy x y left within out = grind (arith, nat_tests)

below_out : (px py qy x y bottom : ℕ) → bottom ≤ py → bottom ≤ qy → y < bottom → (nat_le px x && nat_eq (min py qy) y) ≡ false
below_out px py qy x y bottom one other out = grind (arith, nat_tests)

above_out : (px py qy x y top : ℕ) → py ≤ top → top < y → (nat_le px x && nat_eq (min py qy) y) ≡ false
above_out px py qy x y top one out = grind (arith, nat_tests)

right_out : (px py qy x y right : ℕ) → px ≤ right → right ≤ x → (nat_le px x && nat_eq (min py qy) y) ≡ nat_eq (min py qy) y
right_out px py qy x y right within out = grind (arith, nat_tests)

module _ (bounds : Bounds) (points : List Point) (within : All (IsInBounds bounds) points) (x y : ℕ) where
  -- if no line is crossed, the pixel isn't inside
  uncrossed : ((p q : Point) → IsInBounds bounds p → IsInBounds bounds q → is_crossed x y (line_between p q) ≡ false) → inside points x y ≡ false
  uncrossed agree =
      is_odd-count (is_crossed x y) (lines_of points)
      ∙ same_of (is_crossed x y) (λ _. false) (IsInBounds bounds) agree points within
      ∙ none (lines_of points)

  pub outside_left : x < bounds.left → inside points x y ≡ false
  outside_left out = uncrossed (λ p q hp hq. not_crossed (nat_eq (nat_abs p.x) (nat_abs q.x)) (nat_abs p.x) (nat_abs p.y) (nat_abs q.x) (nat_abs q.y) x y
      (left_out (nat_abs p.x) (nat_abs p.y) (nat_abs q.y) x y bounds.left hp.left out))

  pub outside_bottom : y < bounds.bottom → inside points x y ≡ false
  outside_bottom out = uncrossed (λ p q hp hq. not_crossed (nat_eq (nat_abs p.x) (nat_abs q.x)) (nat_abs p.x) (nat_abs p.y) (nat_abs q.x) (nat_abs q.y) x y
      (below_out (nat_abs p.x) (nat_abs p.y) (nat_abs q.y) x y bounds.bottom hp.bottom hq.bottom out))

  pub outside_top : bounds.top < y → inside points x y ≡ false
  outside_top out = uncrossed (λ p q hp hq. not_crossed (nat_eq (nat_abs p.x) (nat_abs q.x)) (nat_abs p.x) (nat_abs p.y) (nat_abs q.x) (nat_abs q.y) x y
      (above_out (nat_abs p.x) (nat_abs p.y) (nat_abs q.y) x y bounds.top hp.top out))

  pub outside_right : IsClosedWalk points → All (IsCornerOf 32767 32767) points → bounds.right ≤ x → inside points x y ≡ false
  outside_right closed corners out =
      is_odd-count (is_crossed x y) (lines_of points)
      ∙ same_of (is_crossed x y) (is_in_row y) (IsInBounds bounds)
      (λ p q hp hq. crossed_in_row (nat_eq (nat_abs p.x) (nat_abs q.x)) (nat_abs p.x) (nat_abs p.y) (nat_abs q.x) (nat_abs q.y) x y
      (right_out (nat_abs p.x) (nat_abs p.y) (nat_abs q.y) x y bounds.right hp.right out)) points within
      ∙ even_rows y points closed corners

-- a test that fails makes both fail
not_later : (later is : Bool) → later ≡ false → (later && is) ≡ false
not_later later is h = ap (λ b. b && is) h

not_inside : (later is : Bool) → is ≡ false → (later && is) ≡ false
not_inside later is h = ap (λ b. later && b) h ∙ and-false later

low_row : (place bottom : ℕ) → nat_lt place (ROW * bottom) ≡ true → place / ROW < bottom
low_row place bottom h = grind (arith, nat_tests)

high_row : (place top : ℕ) → nat_lt place (ROW * (top + 1)) ≡ false → top < place / ROW
high_row place top h = grind (arith, nat_tests)

left_of : (left x : ℕ) → nat_le left x ≡ false → x < left
left_of left x h = grind (arith, nat_tests)

right_of : (right x : ℕ) → nat_lt x right ≡ false → right ≤ x
right_of right x h = grind (arith, nat_tests)

-- if three tests fail together, one of them fails
one_fails : (a b c : Bool) → (a && (b && c)) ≡ false → (a ≡ false) ⊎ ((b ≡ false) ⊎ (c ≡ false))
one_fails false b c h = inl refl
one_fails true false c h = inr (inl refl)
one_fails true true c h = inr (inr h)

module _ (bounds : Bounds) (points : List Point) (within : All (IsInBounds bounds) points) (number : ℕ) (start : PathStart) where
  -- a start that isn't a candidate isn't held
  pub no_candidate : IsClosedWalk points → All (IsCornerOf 32767 32767) points → is_candidate number bounds start ≡ false → is_held number points start ≡ false
  no_candidate closed corners h = elim (one_fails (nat_lt number start.path) (nat_le bounds.left (start.place % ROW)) (nat_lt (start.place % ROW) bounds.right) h) [
    | inl earlier ↦ not_later (nat_lt number start.path) (inside points (start.place % ROW) (start.place / ROW)) earlier
    | inr out ↦ elim out [
      | inl left ↦ not_inside (nat_lt number start.path) (inside points (start.place % ROW) (start.place / ROW))
          (outside_left bounds points within (start.place % ROW) (start.place / ROW) (left_of bounds.left (start.place % ROW) left))
      | inr right ↦ not_inside (nat_lt number start.path) (inside points (start.place % ROW) (start.place / ROW))
          (outside_right bounds points within (start.place % ROW) (start.place / ROW) closed corners (right_of bounds.right (start.place % ROW) right))
    ]
  ]

  -- a start in a row below all points isn't held
  pub too_low : nat_lt start.place (ROW * bounds.bottom) ≡ true → is_held number points start ≡ false
  too_low h = not_inside (nat_lt number start.path) (inside points (start.place % ROW) (start.place / ROW))
      (outside_bottom bounds points within (start.place % ROW) (start.place / ROW) (low_row start.place bounds.bottom h))

  -- a start in a row above all points isn't held
  pub too_high : nat_lt start.place (ROW * (bounds.top + 1)) ≡ false → is_held number points start ≡ false
  too_high h = not_inside (nat_lt number start.path) (inside points (start.place % ROW) (start.place / ROW))
      (outside_top bounds points within (start.place % ROW) (start.place / ROW) (high_row start.place bounds.top h))

-- if no start between the rows is a candidate, none is held
pub none_held : (bounds : Bounds) (points : List Point) (number first count : ℕ) (starts : List PathStart)
    → IsClosedWalk points → All (IsCornerOf 32767 32767) points → All (IsInBounds bounds) points
    → IsPartitionPoint (λ s. nat_lt s.place (ROW * bounds.bottom) ≡ true) (λ s. nat_lt s.place (ROW * bounds.bottom) ≡ false) starts first
    → IsPartitionPoint (λ s. nat_lt s.place (ROW * (bounds.top + 1)) ≡ true) (λ s. nat_lt s.place (ROW * (bounds.top + 1)) ≡ false) (drop first starts) count
    → count ≤ length (drop first starts) → first ≤ length starts
    → All (λ s. is_candidate number bounds s ≡ false) (take count (drop first starts)) → All (λ s. is_held number points s ≡ false) starts
none_held bounds points number first count starts closed corners within lows highs some few none_there k d h = elim (dec_lt k first) [
  | yes low ↦ too_low bounds points within number (get_or starts k d) (lows.0 k d (omega arith) low)
  | no not_low ↦
      let j : ℕ = k - first in
      let at : first + j ≡ k = omega arith in
      let here : j < length (drop first starts) = omega (arith, length-drop first starts) in
      let same : get_or (drop first starts) j d ≡ get_or starts k d = get_or-drop first starts j d ∙ ap (λ n. get_or starts n d) at in
      elim (dec_lt j count) [
        | yes inner ↦
            let short : j < length (take count (drop first starts)) = omega (arith, length-take count (drop first starts)) in
            let read : get_or (take count (drop first starts)) j d ≡ get_or starts k d = get_or-take count (drop first starts) j d inner ∙ same in
            no_candidate bounds points within number (get_or starts k d) closed corners
            (rw (sym read) (none_there j d short))
        | no beyond ↦
            too_high bounds points within number (get_or starts k d) (rw (sym same) (highs.1 j d (omega arith) here))
      ]
]

-- starts that aren't held aren't marked
pub marked-unheld : (i : ℕ) (test : ℕ → Bool) (starts : List PathStart) (holders : List (Option ℕ)) → All (λ s. (nat_lt i s.path && test s.place) ≡ false) starts
    → marked i test starts holders ≡ holders
marked-unheld i test starts holders none = marked-none i test starts holders (λ k d h. no_marking i (get_or starts k d) holders (test (get_or starts k d).place) (none k d h))
