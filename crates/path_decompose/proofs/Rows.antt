-- A closed walk has an even number of upright lines in each row, since it changes sides of the row at each.
use Rattle.std.proofs.Common.{◌≡◌, ℕ, zero, suc, ◌+◌, ◌%◌, ◌<◌, Bool, false, nat_abs, nat_eq, nat_lt, min, cond, ◌⊎◌, List, [], ◌∷◌, length, get_or, drop, All, count_by, refl, ap, sym, subst, ◌∙◌, inl, inr, arith}
use Rattle.std.proofs.Math.Seq.{drop-cons}
use Rattle.std.proofs.Math.Nat.{mod-eq_of_lt, mod-lt, mod_self}
use Rattle.std.proofs.lemmas.Bool.{eq-eqb, ne_eqb}
use Rattle.std.proofs.lemmas.Bool.Decides.{nat_tests}
use Rattle.std.proofs.lemmas.List.{drop_all}
use Rattle.pt_core.specs.ClosedWalk.{origin, point_at, IsUnitStep, IsClosedWalk}
use Rattle.pt_core.specs.declared.point.Point.{Point}
use Rattle.bit_image.specs.Image.{differ}
use Rattle.boundary_edges.specs.Bounds.{IsCornerOf}
use Rattle.boundary_edges.specs.Inside.{line_at, line_between, lines_to, lines_of, is_odd}
use Rattle.boundary_edges.specs.GridEdges.{GridEdge, upright, level, is_in_row}
use Rattle.boundary_edges.proofs.Differ.{differ-false, differ_same, differ_link}
use Rattle.boundary_edges.proofs.LineSpots.{next_natural}
use Rattle.path_decompose.proofs.Parity.{odd_by, is_odd-count}

-- along a row the walk stays on one side
sideways : (y a c b d : ℕ) → b ≡ d → (a ≡ suc c) ⊎ (c ≡ suc a) → is_in_row y (line_at a b c d) ≡ differ (nat_lt y b) (nat_lt y d)
sideways y a c b d same next =
    let apart : nat_eq a c ≡ false = ne_eqb a c (λ e. elim next [ inl left ↦ omega arith | inr right ↦ omega arith ]) in
    ap (λ t. is_in_row y (cond t (upright a (min b d)) (level (min a c) b))) apart
    ∙ sym (ap (λ k. differ (nat_lt y b) (nat_lt y k)) (sym same) ∙ differ_same (nat_lt y b))

-- along a column it goes through the row where it changes sides
upwards : (y a c b d : ℕ) → a ≡ c → (b ≡ suc d) ⊎ (d ≡ suc b) → is_in_row y (line_at a b c d) ≡ differ (nat_lt y b) (nat_lt y d)
upwards y a c b d same next =
    ap (λ t. is_in_row y (cond t (upright a (min b d)) (level (min a c) b))) (eq-eqb a c same)
    ∙ elim next [ inl down ↦ through y b d down | inr up ↦ back y b d up ]
  where
    through : (y b d : ℕ) → b ≡ suc d → nat_eq (min b d) y ≡ differ (nat_lt y b) (nat_lt y d)
    through y b d e = grind (arith, nat_tests)

    back : (y b d : ℕ) → d ≡ suc b → nat_eq (min b d) y ≡ differ (nat_lt y b) (nat_lt y d)
    back y b d e = grind (arith, nat_tests)

unit_line : (y width height : ℕ) (p q : Point) → IsCornerOf width height p → IsCornerOf width height q → IsUnitStep p q → is_in_row y (line_between p q) ≡ differ (nat_lt y (nat_abs p.y)) (nat_lt y (nat_abs q.y))
unit_line y width height p q hp hq (inl along) =
    sideways y (nat_abs p.x) (nat_abs q.x) (nat_abs p.y) (nat_abs q.y) (ap nat_abs along.0) (next_natural p.x q.x hp.from_left hq.from_left along.1)
unit_line y width height p q hp hq (inr across) =
    upwards y (nat_abs p.x) (nat_abs q.x) (nat_abs p.y) (nat_abs q.y) (ap nat_abs across.0) (next_natural p.y q.y hp.from_bottom hq.from_bottom across.1)

-- Where each line of a closed list of points tells whether S changes along it, the lines from point k on tell whether S
-- differs between that point and the first.
chain : (f : GridEdge → Bool) (S : Point → Bool) (points : List Point)
    → ((k : ℕ) → f (line_between (point_at points k) (point_at points (suc k))) ≡ differ (S (point_at points k)) (S (point_at points (suc k))))
    → (m k : ℕ) → k + suc m ≡ length points
    → odd_by f (lines_to (point_at points 0) (point_at points k) (drop (suc k) points)) ≡ differ (S (point_at points k)) (S (point_at points 0))
chain f S points h zero k last =
    let n : ℕ = length points in
    let whole : suc k ≡ n = omega arith in
    let around : point_at points (suc k) ≡ point_at points 0 =
    ap (λ j. get_or points j origin) (ap (λ j. j % n) whole ∙ mod_self n ∙ sym (mod-eq_of_lt {n = 0} {m = n} (omega arith))) in
    ap (λ qs. odd_by f (lines_to (point_at points 0) (point_at points k) qs)) (drop_all (suc k) points (omega arith))
    ∙ differ-false (f (line_between (point_at points k) (point_at points 0)))
    ∙ subst (λ q. f (line_between (point_at points k) q) ≡ differ (S (point_at points k)) (S q)) around (h k)
chain f S points h (suc m) k last =
    let next : get_or points (suc k) origin ≡ point_at points (suc k) =
    ap (λ j. get_or points j origin) (sym (mod-eq_of_lt {n = suc k} {m = length points} (omega arith))) in
    let rest = chain f S points h m (suc k) (omega arith) in
    ap (λ qs. odd_by f (lines_to (point_at points 0) (point_at points k) qs)) (drop-cons points (suc k) origin (omega arith))
    ∙ ap (λ q. odd_by f (line_between (point_at points k) q ∷ lines_to (point_at points 0) q (drop (suc (suc k)) points))) next
    ∙ ap (λ t. differ t (odd_by f (lines_to (point_at points 0) (point_at points (suc k)) (drop (suc (suc k)) points)))) (h k)
    ∙ ap (differ (differ (S (point_at points k)) (S (point_at points (suc k))))) rest
    ∙ differ_link (S (point_at points k)) (S (point_at points (suc k))) (S (point_at points 0))

-- an even number of the lines of a closed walk are upright in a row
pub closed_row_even : (width height : ℕ) (points : List Point) → IsClosedWalk points → All (IsCornerOf width height) points → (y : ℕ) → is_odd (count_by (is_in_row y) (lines_of points)) ≡ false
closed_row_even width height [] closed corners y = refl
closed_row_even width height (p ∷ qs) closed corners y =
    let points : List Point = p ∷ qs in
    let S : Point → Bool = λ q. nat_lt y (nat_abs q.y) in
    let some : 0 < length points = omega arith in
    let first : p ≡ point_at points 0 = ap (λ j. get_or points j origin) (sym (mod-eq_of_lt {n = 0} {m = length points} some)) in
    let corner : (k : ℕ) → IsCornerOf width height (point_at points k) = λ k. corners (k % length points) origin (mod-lt k some) in
    let step : (k : ℕ) → is_in_row y (line_between (point_at points k) (point_at points (suc k))) ≡ differ (S (point_at points k)) (S (point_at points (suc k))) =
    λ k. unit_line y width height (point_at points k) (point_at points (suc k)) (corner k) (corner (suc k)) (closed.steps k) in
    is_odd-count (is_in_row y) (lines_of points)
    ∙ ap (λ q. odd_by (is_in_row y) (lines_to q q qs)) first
    ∙ chain (is_in_row y) S points step (length qs) 0 (omega arith)
    ∙ differ_same (S (point_at points 0))
