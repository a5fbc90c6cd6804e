-- How small the penalties of a polygon's segments are.
use Rattle.std.proofs.Common.{◌≡◌, ℕ, zero, suc, ◌+◌, ◌-◌, ◌*◌, ◌/◌, ◌<◌, ◌≤◌, ◌^◌, ℤ, ◌*ℤ◌, List, [], ◌∷◌, ◌++◌, length, All, arith}
use Rattle.std.proofs.lemmas.Int.{ints}
use Rattle.std.proofs.lemmas.List.Elements.{All-head, All-tail}
use Rattle.std.proofs.lemmas.List.Sums.{sum_by-cons}
use Rattle.std.specs.Prelude.{sum_by, unsigned_abs}
use Rattle.pt_core.specs.ClosedWalk.{IsClosedWalk}
use Rattle.pt_core.specs.declared.point.Point.{Point}
use Rattle.std.proofs.lemmas.Nat.{mul-le}
use Rattle.pt_core.specs.declared.limits.TheConstants.{MOST_STEPS}
use Rattle.pt_core.proofs.Roots.{root_below}
use Rattle.pt_core.proofs.Sizes.{product_most}
use Rattle.prefix_moments.specs.Sums.{IsPenalty, sum_of, spread_of, chord_cross_of}
use Rattle.straight_paths.specs.Straight.{IsPossible}
use Rattle.path_cones.proofs.Along.{cross_most}
use Rattle.least_walk.specs.LeastWalk.{Step, steps_from}
use Rattle.polygon_search.specs.Inner.OnePenalty.{mean_most, penalty_is}
use Rattle.polygon_search.specs.Polygon.{IsPolygon, IsSegment, penalty_of, total_penalty}

-- how large the sum of the first numbers is at most
sum_below_most : (f : ℕ → ℤ) (most count : ℕ) → ((k : ℕ) → k < count → unsigned_abs (f k) ≤ most) → unsigned_abs (sum_of f count) ≤ count * most
sum_below_most f most zero h = omega arith
sum_below_most f most (suc count) h = omega (arith, ints, sum_below_most f most count (λ k below. h k (omega arith)), h count (omega arith))

-- the squares of a possible segment's cross products are at most that of its steps
possible_spread : (points : List Point) (i j : ℕ) → IsClosedWalk points → IsPossible points i j
    → unsigned_abs (spread_of points i j) ≤ (j - i + 1) * ((j - i) * (j - i))
possible_spread points i j walk possible =
    let rises = possible.rises in
    sum_below_most (λ d. chord_cross_of points i j (i + d) *ℤ chord_cross_of points i j (i + d)) ((j - i) * (j - i)) (j - i + 1)
    (λ d below.
    (let most : unsigned_abs (chord_cross_of points i j (i + d)) ≤ j - i = cross_most points i j (i + d) walk possible (omega arith) (omega arith) in
    product_most (chord_cross_of points i j (i + d)) (chord_cross_of points i j (i + d)) (j - i) (j - i) most most))

-- so its penalty is at most a pixel for each of its steps
pub possible_most : (points : List Point) (i j penalty : ℕ) → IsClosedWalk points → IsPossible points i j → IsPenalty points i j penalty → penalty ≤ 256 * (j - i)
possible_most points i j penalty walk possible is =
    let steps : ℕ = j - i in
    let mean = mean_most (unsigned_abs (spread_of points i j)) (j - i + 1) (steps * steps) (possible_spread points i j walk possible) in
    let below : penalty < 256 * steps + 1 = root_below (65536 * unsigned_abs (spread_of points i j) / (j - i + 1)) penalty (256 * steps + 1) is (omega arith) in
    omega arith

-- a segment has so few steps that neither takes much room
pub possible_small : (points : List Point) (i j : ℕ) → IsClosedWalk points → IsPossible points i j → unsigned_abs (spread_of points i j) < 2 ^ 48
possible_small points i j walk possible =
    let steps : ℕ = j - i in
    let square = mul-le steps steps MOST_STEPS MOST_STEPS possible.short possible.short in
    omega (
      arith,
      possible_spread points i j walk possible,
      mul-le (steps + 1) (steps * steps) (MOST_STEPS + 1) (MOST_STEPS * MOST_STEPS) (omega (arith, possible.short)) square,
    )

pub possible_cheap : (points : List Point) (i j : ℕ) → IsClosedWalk points → IsPossible points i j → penalty_of points i j < 2 ^ 24
possible_cheap points i j walk possible =
    omega (arith, possible.short, possible_most points i j (penalty_of points i j) walk possible (penalty_is points i j))

-- and those of the segments from a point to the end together for each step up to there
steps_most : (points : List Point) → IsClosedWalk points → (from : ℕ) (others : List ℕ)
    → All (λ (s : Step). IsSegment points s.from s.to) (steps_from from (others ++ length points ∷ []))
    → sum_by (λ (s : Step). penalty_of points s.from s.to) (steps_from from (others ++ length points ∷ [])) + 256 * from ≤ 256 * length points
steps_most points walk from [] allowed =
    let step : Step = record { from = from; to = length points } in
    let segment = All-head (λ (s : Step). IsSegment points s.from s.to) step [] allowed in
    let rises = segment.possible.rises in
    omega (arith, possible_most points from (length points) (penalty_of points from (length points)) walk segment.possible (penalty_is points from (length points)))
steps_most points walk from (next ∷ others) allowed =
    let step : Step = record { from = from; to = next } in
    let rest : List Step = steps_from next (others ++ length points ∷ []) in
    let segment = All-head (λ (s : Step). IsSegment points s.from s.to) step rest allowed in
    let rises = segment.possible.rises in
    let so_far = steps_most points walk next others (All-tail (λ (s : Step). IsSegment points s.from s.to) step rest allowed) in
    let both : sum_by (λ (s : Step). penalty_of points s.from s.to) (steps_from from ((next ∷ others) ++ length points ∷ []))
    ≡ penalty_of points from next + sum_by (λ (s : Step). penalty_of points s.from s.to) rest =
    sum_by-cons (λ (s : Step). penalty_of points s.from s.to) step rest in
    omega (arith, possible_most points from next (penalty_of points from next) walk segment.possible (penalty_is points from next), so_far)

pub total_most : (points : List Point) (at : List ℕ) → IsClosedWalk points → IsPolygon points at → total_penalty points at ≤ 256 * length points
total_most points [] walk polygon = omega arith
total_most points (first ∷ others) walk polygon =
    omega (arith, steps_most points walk first others polygon.allowed)
