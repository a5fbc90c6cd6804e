-- The vertices of a polygon.
use Rattle.std.proofs.Common.{◌≡◌, ℕ, ◌<◌, ◌≤◌, List, [], ◌∷◌, ◌++◌, length, All, Some, arith}
use Rattle.std.proofs.lemmas.List.Elements.{All-nil, All-cons, All-head, All-tail}
use Rattle.pt_core.specs.ClosedWalk.{IsClosedWalk}
use Rattle.pt_core.specs.declared.point.Point.{Point}
use Rattle.least_walk.specs.LeastWalk.{Step, steps_from}
use Rattle.polygon_search.specs.Polygon.{IsPolygon, IsSegment}

-- no segment leads all the way round
too_long : (points : List Point) (first : ℕ) → Some first ≡ Some 0 → IsSegment points first (length points) → ⊥
too_long points first is segment =
    let leaves_three = segment.possible.leaves_three in
    let e : first ≡ 0 = cc in
    omega arith

pub some_vertices : (points : List Point) (at : List ℕ) → IsClosedWalk points → IsPolygon points at → 2 ≤ length at
some_vertices points [] closed polygon =
    let e : length points ≡ 0 = (let first = polygon.first in cc) in
    absurd (omega (arith, closed.least))
some_vertices points (first ∷ []) closed polygon =
    absurd (too_long points first polygon.first
    (All-head (λ (s : Step). IsSegment points s.from s.to) (record { from = first; to = length points }) [] polygon.allowed))
some_vertices points (first ∷ second ∷ others) closed polygon = omega arith

-- a walk that rises to its end is below it before
below_end : (size from : ℕ) (others : List ℕ) → All (λ (s : Step). s.from < s.to) (steps_from from (others ++ size ∷ [])) → All (λ i. i < size) (from ∷ others)
below_end size from [] rises =
    All-cons (λ i. i < size) from [] (All-head (λ (s : Step). s.from < s.to) (record { from = from; to = size }) [] rises) (All-nil (λ i. i < size))
below_end size from (next ∷ others) rises =
    let step : Step = record { from = from; to = next } in
    let rest = below_end size next others (All-tail (λ (s : Step). s.from < s.to) step (steps_from next (others ++ size ∷ [])) rises) in
    let here = All-head (λ (s : Step). s.from < s.to) step (steps_from next (others ++ size ∷ [])) rises in
    let there = All-head (λ i. i < size) next others rest in
    All-cons (λ i. i < size) from (next ∷ others) (omega arith) rest

pub vertices_below : (points : List Point) (at : List ℕ) → IsPolygon points at → All (λ i. i < length points) at
vertices_below points [] polygon = All-nil (λ i. i < length points)
vertices_below points (first ∷ others) polygon = below_end (length points) first others polygon.rises
