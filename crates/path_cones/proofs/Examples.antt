-- The definitions on pictures.
use Rattle.std.proofs.Common.{◌≡◌, ◌≢◌, ℕ, zero, suc, ◌+◌, ◌-◌, ◌<◌, ◌≤◌, pos, negsuc, List, [], ◌∷◌, refl, ap, arith}
use Rattle.std.proofs.lemmas.Int.{ints}
use Rattle.pt_core.specs.declared.point.Point.{Point}
use Rattle.path_cones.specs.Straight.{vector_of, IsNear, TakesAllFour, IsPossible, path_from, east, north}
use Rattle.pt_core.specs.ClosedWalk.{point_at}
use Rattle.path_cones.specs.Corners.{step_from, IsNextCorner}
use Rattle.path_cones.specs.declared.vector.Vector.{Vector}
use Rattle.path_cones.specs.Cones.{cross_of}
use Rattle.path_cones.specs.Inner.Cones.{low_of, high_of}

at : ℕ → ℕ → Point
at x y = record { x = pos x; y = pos y }

-- 0,3 11 10 9      round nine pixels, from the top left corner down
--  1        8
--  2        7
--  3  4  5  6
ring : List Point
ring = at 0 3 ∷ at 0 2 ∷ at 0 1 ∷ at 0 0 ∷ at 1 0 ∷ at 2 0 ∷ at 3 0 ∷ at 3 1 ∷ at 3 2 ∷ at 3 3 ∷ at 2 3 ∷ at 1 3 ∷ []

second_side_goes_east : vector_of (path_from ring 3 0) (path_from ring 3 1) ≡ east
unfolding ring at
second_side_goes_east = refl

-- after the last point the first comes again
round_the_ring : path_from ring 11 1 ≡ at 0 3
unfolding ring at
round_the_ring = refl

-- from point 1 it is two steps to the corner: both of them go south, and the next one goes east
both_go_south : (e : ℕ) → 1 ≤ e → e < 2 → step_from (point_at ring) (1 + (e - 1)) ≡ step_from (point_at ring) (1 + e)
unfolding ring at
both_go_south zero a b = absurd (omega arith)
both_go_south (suc zero) a b = refl
both_go_south (suc (suc e)) a b = absurd (omega arith)

turns_east : step_from (point_at ring) 2 ≢ step_from (point_at ring) 3
unfolding ring at
turns_east same = let x : pos 0 ≡ pos 1 = ap (λ (o : Vector). o.x) same in omega (arith, ints)

corner_of_the_ring : IsNextCorner ring 1 2
corner_of_the_ring = record { some = omega arith; turns = turns_east; none_before = both_go_south }

-- the corner is exactly 1 away from the line between its neighbours' neighbours
--   o
--   .  `.
--   x . . o
corner_is_near : IsNear (record { x = pos 0; y = negsuc 1 }) (record { x = pos 2; y = negsuc 1 })
corner_is_near = record {
  p = 1;
  q = 2;
  positive = omega arith;
  in_x = record { low = omega (arith, ints); high = omega (arith, ints) };
  in_y = record { low = omega (arith, ints); high = omega (arith, ints) };
}

-- three steps down and two to the right: that corner is too far away
corner_is_far : ¬ IsNear (record { x = pos 0; y = negsuc 2 }) (record { x = pos 2; y = negsuc 2 })
corner_is_far n =
    let some = n.positive in
    let x = n.in_x in
    let y = n.in_y in
    omega (arith, ints)

-- a half-line has no other half: two steps to the right aren't near the way to the left
behind_is_far : ¬ IsNear (record { x = pos 2; y = pos 0 }) (record { x = negsuc 1; y = pos 0 })
behind_is_far n =
    let some = n.positive in
    let x = n.in_x in
    omega (arith, ints)

-- so the segment from point 1 to point 4 isn't possible: the points before and after it count
not_from_one_to_four : ¬ IsPossible ring 1 4
unfolding ring at
not_from_one_to_four p = corner_is_far (p.straight.near 0 3 5 (omega arith) (omega arith) (omega arith))

-- a pixel's four steps take all four directions
pixel : List Point
pixel = at 0 1 ∷ at 0 0 ∷ at 1 0 ∷ at 1 1 ∷ []

all_round : TakesAllFour (path_from pixel 0) 4
unfolding pixel at
all_round = record {
  east = record { k = 1; early = omega arith; taken = refl };
  north = record { k = 2; early = omega arith; taken = refl };
  west = record { k = 3; early = omega arith; taken = refl };
  south = record { k = 0; early = omega arith; taken = refl };
}

-- the cone around three steps to the right goes from the square's lower left to its upper left corner
low_corner : low_of (record { x = pos 3; y = pos 0 }) ≡ record { x = pos 2; y = negsuc 0 }
low_corner = refl

high_corner : high_of (record { x = pos 3; y = pos 0 }) ≡ record { x = pos 2; y = pos 1 }
high_corner = refl

north_is_left_of_east : cross_of east north ≡ pos 1
north_is_left_of_east = refl
