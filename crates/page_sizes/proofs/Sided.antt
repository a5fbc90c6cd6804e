-- Each line on a page is one of its sides.
use Rattle.std.proofs.Common.{◌≡◌, ℕ, suc, ◌+◌, ◌<◌, cond, ◌&&◌, nat_eq, nat_le, List, [], ◌∷◌, All, length, count_by, ap, ◌∙◌, arith}
use Rattle.std.proofs.lemmas.Bool.Decides.{nat_tests}
use Rattle.std.proofs.lemmas.List.Elements.{All-head, All-tail}
use Rattle.std.proofs.lemmas.List.Sums.{sum_by-cons}
use Rattle.turn_policies.specs.Majority.{sum_below}
use Rattle.turn_policies.proofs.SumsBelow.{sum_below-add, sum_below-at, sum_below-if, sum_below-same, sum_below-zero}
use Rattle.path_decompose.specs.Inner.GridEdges.{IsLineOn}
use Rattle.path_decompose.specs.GridEdges.{GridEdge, level, same_line, upright}

-- a sum over all sides of the pixels of a page
abbrev pub over_sides : ℕ → ℕ → (GridEdge → ℕ) → ℕ
over_sides width height f =
    sum_below height (λ y. sum_below (suc width) (λ x. f (upright x y))) + sum_below (suc height) (λ y. sum_below width (λ x. f (level x y)))

eq_back : (a b : ℕ) → nat_eq a b ≡ nat_eq b a
eq_back a b = grind (arith, nat_tests)

-- of a grid of places one is (u, v)
one_place : (columns rows u v : ℕ) → u < columns → v < rows → sum_below rows (λ y. sum_below columns (λ x. cond (nat_eq x u && nat_eq y v) 1 0)) ≡ 1
one_place columns rows u v left below =
    sum_below-same rows (λ y. sum_below columns (λ x. cond (nat_eq x u && nat_eq y v) 1 0)) (λ y. cond (nat_eq v y) 1 0) row
    ∙ sum_below-at rows v 1 ∙ at_most rows v below
  where
    at_most : (n c : ℕ) → c < n → cond {A = ℕ} (nat_le n c) 0 1 ≡ 1
    at_most n c below = grind (arith, nat_tests)

    column : sum_below columns (λ x. cond (nat_eq x u) 1 0) ≡ 1
    column =
        sum_below-same columns (λ x. cond (nat_eq x u) 1 0) (λ x. cond (nat_eq u x) 1 0) (λ x short. ap (λ t. cond t 1 0) (eq_back x u))
        ∙ sum_below-at columns u 1 ∙ at_most columns u left

    row : (y : ℕ) → y < rows → sum_below columns (λ x. cond (nat_eq x u && nat_eq y v) 1 0) ≡ cond (nat_eq v y) 1 0
    row y short =
        sum_below-if columns (nat_eq y v) (λ x. nat_eq x u) ∙ ap (λ n. cond (nat_eq y v) n 0) column ∙ ap (λ t. cond t 1 0) (eq_back y v)

no_place : (columns rows : ℕ) → sum_below rows (λ y. sum_below columns (λ x. 0)) ≡ 0
no_place columns rows =
    sum_below-same rows (λ y. sum_below columns (λ x. 0)) (λ y. 0) (λ y short. sum_below-zero columns) ∙ sum_below-zero rows

one_side : (width height : ℕ) (l : GridEdge) → IsLineOn width height l → over_sides width height (λ side. cond (same_line side l) 1 0) ≡ 1
one_side width height (upright u v) on =
    let here = one_place (suc width) height u v (omega (arith, on.0)) on.1 in
    let none = no_place width (suc height) in
    omega arith
one_side width height (level u v) on =
    let here = one_place width (suc height) u v on.0 (omega (arith, on.1)) in
    let none = no_place (suc width) height in
    omega arith

pub over_sides-add : (width height : ℕ) (f g : GridEdge → ℕ) → over_sides width height (λ side. f side + g side) ≡ over_sides width height f + over_sides width height g
over_sides-add width height f g =
    let uprights = sum_below-same height (λ y. sum_below (suc width) (λ x. f (upright x y) + g (upright x y))) (λ y. sum_below (suc width) (λ x. f (upright x y)) + sum_below (suc width) (λ x. g (upright x y))) (λ y short. sum_below-add (suc width) (λ x. f (upright x y)) (λ x. g (upright x y)))
    ∙ sum_below-add height (λ y. sum_below (suc width) (λ x. f (upright x y))) (λ y. sum_below (suc width) (λ x. g (upright x y))) in
    let levels = sum_below-same (suc height) (λ y. sum_below width (λ x. f (level x y) + g (level x y))) (λ y. sum_below width (λ x. f (level x y)) + sum_below width (λ x. g (level x y))) (λ y short. sum_below-add width (λ x. f (level x y)) (λ x. g (level x y)))
    ∙ sum_below-add (suc height) (λ y. sum_below width (λ x. f (level x y))) (λ y. sum_below width (λ x. g (level x y))) in
    omega arith

pub over_sides-same : (width height : ℕ) (f g : GridEdge → ℕ) → ((side : GridEdge) → f side ≡ g side) → over_sides width height f ≡ over_sides width height g
over_sides-same width height f g same =
    let uprights = sum_below-same height (λ y. sum_below (suc width) (λ x. f (upright x y))) (λ y. sum_below (suc width) (λ x. g (upright x y))) (λ y short. sum_below-same (suc width) (λ x. f (upright x y)) (λ x. g (upright x y)) (λ x near. same (upright x y))) in
    let levels = sum_below-same (suc height) (λ y. sum_below width (λ x. f (level x y))) (λ y. sum_below width (λ x. g (level x y))) (λ y short. sum_below-same width (λ x. f (level x y)) (λ x. g (level x y)) (λ x near. same (level x y))) in
    omega arith

-- so as many lines as there are on a page, so many times its sides are met
pub met_once : (width height : ℕ) (lines : List GridEdge) → All (IsLineOn width height) lines → over_sides width height (λ side. count_by (same_line side) lines) ≡ length lines
met_once width height [] on =
    let up = no_place (suc width) height in
    let across = no_place width (suc height) in
    omega arith
met_once width height (l ∷ lines) on =
    let here = one_side width height l (All-head (IsLineOn width height) l lines on) in
    let rest = met_once width height lines (All-tail (IsLineOn width height) l lines on) in
    let both =
    over_sides-same width height (λ side. count_by (same_line side) (l ∷ lines)) (λ side. cond (same_line side l) 1 0 + count_by (same_line side) lines)
    (λ side. sum_by-cons (λ m. cond (same_line side m) 1 0) l lines)
    ∙ over_sides-add width height (λ side. cond (same_line side l) 1 0) (λ side. count_by (same_line side) lines) in
    omega arith
