-- A segment has one penalty, and it is small.
use Rattle.std.proofs.Common.{◌≡◌, ℕ, ◌+◌, ◌-◌, ◌*◌, ◌/◌, ◌<◌, ◌≤◌, ◌^◌, ℤ, ◌-ℤ◌, ◌*ℤ◌, List, arith}
use Rattle.std.proofs.lemmas.Int.{ints}
use Rattle.std.specs.Prelude.{unsigned_abs}
use Rattle.std.proofs.Math.Nat.{div-le_of_le-mul}
use Rattle.pt_core.specs.declared.point.Point.{Point}
use Rattle.pt_core.specs.OnPage.{AreOnPage}
use Rattle.pt_core.specs.declared.limits.TheConstants.{LONGEST_SIDE}
use Rattle.pt_core.proofs.Roots.{root_is, root_is_one, root_below}
use Rattle.prefix_moments.specs.Sums.{IsPenalty, spread_of, chord_cross_of, rightward_of, above_of}
use Rattle.pt_core.proofs.Sizes.{product_most}
use Rattle.prefix_moments.proofs.Summing.{sum_most}
use Rattle.polygon_search.specs.Polygon.{penalty_of}

-- it is the one that the sums over the segment's points give
pub penalty_is : (points : List Point) (i j : ℕ) → IsPenalty points i j (penalty_of points i j)
unfolding penalty_of
penalty_is points i j = root_is (65536 * unsigned_abs (spread_of points i j) / (j - i + 1))

-- no other number is the penalty of a segment
pub penalty_is_one : (points : List Point) (i j penalty : ℕ) → IsPenalty points i j penalty → penalty ≡ penalty_of points i j
penalty_is_one points i j penalty is =
    root_is_one (65536 * unsigned_abs (spread_of points i j) / (j - i + 1)) penalty (penalty_of points i j) is (penalty_is points i j)

-- two points of a page are no farther apart than its longest side
right_most : (points : List Point) → AreOnPage points → (i k : ℕ) → unsigned_abs (rightward_of points i k) ≤ LONGEST_SIDE
right_most points on_page i k = let p = on_page k in let q = on_page i in omega (arith, ints)

-- the same of how far one is above the other
above_most : (points : List Point) → AreOnPage points → (i k : ℕ) → unsigned_abs (above_of points i k) ≤ LONGEST_SIDE
above_most points on_page i k = let p = on_page k in let q = on_page i in omega (arith, ints)

-- a difference of two numbers is at most twice as large
difference_most : (a b : ℤ) (most : ℕ) → unsigned_abs a ≤ most → unsigned_abs b ≤ most → unsigned_abs (a -ℤ b) ≤ 2 * most
difference_most a b most h k = omega (arith, ints)

-- so the cross products are small
abbrev most_cross : ℕ
most_cross = 2 * (LONGEST_SIDE * LONGEST_SIDE)

-- no cross product is larger than that
cross_most : (points : List Point) → AreOnPage points → (i j k : ℕ) → unsigned_abs (chord_cross_of points i j k) ≤ most_cross
cross_most points on_page i j k =
    difference_most (rightward_of points i k *ℤ above_of points i j) (above_of points i k *ℤ rightward_of points i j) (LONGEST_SIDE * LONGEST_SIDE)
    (product_most (rightward_of points i k) (above_of points i j) LONGEST_SIDE LONGEST_SIDE (right_most points on_page i k) (above_most points on_page i j))
    (product_most (above_of points i k) (rightward_of points i j) LONGEST_SIDE LONGEST_SIDE (above_most points on_page i k) (right_most points on_page i j))

-- so the sum of their squares is small
spread_most : (points : List Point) → AreOnPage points → (i j : ℕ) → unsigned_abs (spread_of points i j) ≤ (j - i + 1) * (most_cross * most_cross)
spread_most points on_page i j =
    sum_most (λ d. chord_cross_of points i j (i + d) *ℤ chord_cross_of points i j (i + d)) (most_cross * most_cross) (j - i + 1)
    (λ d. product_most (chord_cross_of points i j (i + d)) (chord_cross_of points i j (i + d)) most_cross most_cross (cross_most points on_page i j (i + d)) (cross_most points on_page i j (i + d)))

-- the mean of so many numbers isn't above the greatest
pub mean_most : (total count most : ℕ) → total ≤ count * most → 65536 * total / count ≤ 65536 * most
mean_most total count most h =
    let few : 65536 * total ≤ count * (65536 * most) = omega arith in
    div-le_of_le-mul count few

-- a penalty fits with room to spare
pub penalty_most : (points : List Point) → AreOnPage points → (i j : ℕ) → penalty_of points i j < 2 ^ 56
penalty_most points on_page i j =
    let mean = mean_most (unsigned_abs (spread_of points i j)) (j - i + 1) (most_cross * most_cross) (spread_most points on_page i j) in
    root_below (65536 * unsigned_abs (spread_of points i j) / (j - i + 1)) (penalty_of points i j) (2 ^ 56) (penalty_is points i j) (omega arith)
