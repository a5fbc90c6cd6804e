-- That the halves' bounds are together at most the penalty.
use Rattle.std.proofs.Common.{◌≡◌, ℕ, ◌+◌, ◌-◌, ◌*◌, ◌<◌, ◌≤◌, ℤ, pos, ◌+ℤ◌, ◌-ℤ◌, ◌*ℤ◌, ◌≤ℤ◌, List, sym, ap, ◌∙◌, subst, arith}
use Rattle.std.proofs.lemmas.Int.{ints}
use Rattle.std.specs.Prelude.{unsigned_abs}
use Rattle.pt_core.specs.declared.point.Point.{Point}
use Rattle.pt_core.specs.ClosedWalk.{point_at}
use Rattle.pt_core.proofs.Terms.{num, less, times, same_value}
use Rattle.prefix_moments.specs.Sums.{sum_of, spread_of, rightward_of, above_of, IsPenalty}
use Rattle.prefix_moments.proofs.Prefixes.{sum_same}
use Rattle.prefix_moments.proofs.Summing.{split, squares_at_least}
use Rattle.prefix_moments.proofs.Totals.{limit_reached}
use Rattle.half_penalties.specs.Inner.HalfPenalties.{GoesOneWay, IsBoundBefore, IsBoundBehind, along_of, cross_from, crosses_of}
use Rattle.half_penalties.proofs.Naturals.{square_is, natural}
use Rattle.half_penalties.proofs.Cauchy.{cauchy, with_one_more}

-- a cross product with a chord is the same from both of its ends
cross_same : (x y a b c d : ℤ) → (x -ℤ a) *ℤ (d -ℤ b) -ℤ (y -ℤ b) *ℤ (c -ℤ a) ≡ (x -ℤ c) *ℤ (d -ℤ b) -ℤ (y -ℤ d) *ℤ (c -ℤ a)
cross_same x y a b c d =
    let by = λ (p : ℤ) (q : ℤ) (r : ℤ) (s : ℤ). times (less (num p) (num q)) (less (num r) (num s)) in
    same_value (less (by x a d b) (by y b c a)) (less (by x c d b) (by y d c a)) (omega arith)

-- a segment's spread is that of its two halves
halves_are : (points : List Point) (i middle j : ℕ) → i ≤ middle → middle < j
    → spread_of points i j
    ≡ crosses_of points i i middle (rightward_of points i j) (above_of points i j)
    +ℤ crosses_of points j (middle + 1) j (rightward_of points i j) (above_of points i j)
halves_are points i middle j h l =
    let right = rightward_of points i j in
    let above = above_of points i j in
    let p : ℕ = middle - i + 1 in
    let q : ℕ = j - (middle + 1) + 1 in
    let one : ℕ → ℤ = λ k. cross_from points i k right above *ℤ cross_from points i k right above in
    let other : ℕ → ℤ = λ k. cross_from points j k right above *ℤ cross_from points j k right above in
    let first : Point = point_at points i in
    let last : Point = point_at points j in
    let same : (k : ℕ) → one k ≡ other k = λ k. (let at : Point = point_at points k in ap (λ z. z *ℤ z) (cross_same at.x at.y first.x first.y last.x last.y)) in
    let count : j - i + 1 ≡ p + q = omega arith in
    let place : (d : ℕ) → i + (p + d) ≡ middle + 1 + d = λ d. omega arith in
    ap (sum_of (λ d. one (i + d))) count ∙ split (λ d. one (i + d)) p q
    ∙ ap (λ z. sum_of (λ d. one (i + d)) p +ℤ z) (sum_same (λ d. one (i + (p + d))) (λ d. other (middle + 1 + d)) q (λ d. ap one (place d) ∙ same (middle + 1 + d)))

-- a bound's inequality in natural numbers
in_naturals : (a : ℕ) (along : ℤ) (weight : ℕ) (total : ℤ) (n : ℕ) → unsigned_abs along ≡ n → pos 0 ≤ℤ total
    → (pos (a * a) *ℤ (along *ℤ along)) ≤ℤ (pos (65536 * weight) *ℤ total) → a * a * (n * n) ≤ 65536 * weight * unsigned_abs total
in_naturals a along weight total n e some h =
    let P : ℤ → ℤ → Type 0 = λ x y. (pos (a * a) *ℤ x) ≤ℤ (pos (65536 * weight) *ℤ y) in
    let inner : (pos (a * a) *ℤ pos (n * n)) ≤ℤ (pos (65536 * weight) *ℤ pos (unsigned_abs total)) =
    subst (λ y. P (pos (n * n)) y) (natural total some) (subst (λ x. P x total) (square_is along ∙ ap (λ m. pos (m * m)) e) h) in
    omega (arith, ints, inner)

pub together : (points : List Point) (slant : ℤ) (i middle j a b penalty : ℕ) → i ≤ middle → middle < j → GoesOneWay points slant i j
    → IsBoundBefore points slant middle i a → IsBoundBehind points slant middle j b → IsPenalty points i j penalty → a + b ≤ penalty
together points slant i middle j a b penalty h l way before behind is =
    let right = rightward_of points i j in
    let above = above_of points i j in
    let along : ℤ = along_of slant right above in
    let first : ℤ = crosses_of points i i middle right above in
    let other : ℤ = crosses_of points j (middle + 1) j right above in
    let total : ℕ = unsigned_abs (spread_of points i j) in
    let p : ℕ = middle - i in
    let q : ℕ = j - middle - 1 in
    let n : ℕ = p + q in
    let steps : unsigned_abs along ≡ n + 1 = way ∙ omega arith in
    let some : pos 0 ≤ℤ first = squares_at_least (λ d. cross_from points i (i + d) right above) (middle - i + 1) in
    let more : pos 0 ≤ℤ other = squares_at_least (λ d. cross_from points j (middle + 1 + d) right above) (j - (middle + 1) + 1) in
    let sum : unsigned_abs first + unsigned_abs other ≡ total = sym (ap unsigned_abs (halves_are points i middle j h l) ∙ omega (arith, ints, some, more)) in
    let one : a * a * ((n + 1) * (n + 1)) ≤ 65536 * p * unsigned_abs first = in_naturals a along p first (n + 1) steps some (before right above) in
    let two : b * b * ((n + 1) * (n + 1)) ≤ 65536 * q * unsigned_abs other = in_naturals b along q other (n + 1) steps more (behind right above) in
    let both : (a + b) * (a + b) * ((n + 1) * (n + 1)) ≤ (65536 * p + 65536 * q) * (unsigned_abs first + unsigned_abs other) =
    cauchy a b ((n + 1) * (n + 1)) (65536 * p) (65536 * q) (unsigned_abs first) (unsigned_abs other) one two in
    let all : (a + b) * (a + b) * ((n + 1) * (n + 1)) ≤ n * (65536 * total) = omega (arith, both, ap (λ m. (65536 * p + 65536 * q) * m) sum) in
    let count : j - i + 1 ≡ n + 2 = omega arith in
    let P : ℕ → Type 0 = λ m. (a + b) * (a + b) * m ≤ 65536 * total in
    let reached : P (j - i + 1) = subst P (sym count) (with_one_more ((a + b) * (a + b)) n (65536 * total) all) in
    limit_reached (65536 * total) (j - i + 1) (a + b) penalty (omega arith) reached is
