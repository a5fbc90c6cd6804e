-- The definition on the path round two pixels in a row, and on its copy that lies lower and to the right.
use Rattle.std.proofs.Common.{◌≡◌, ℕ, pos, negsuc, List, [], ◌∷◌, refl}
use Rattle.pt_core.specs.declared.point.Point.{Point}
use Rattle.prefix_moments.specs.Sums.{rightward_of, above_of}

abbrev corner : ℕ → ℕ → Point
corner x y = record { x = pos x; y = pos y }

-- 0 -- 5 -- 4
-- |         |
-- 1 -- 2 -- 3
round : List Point
round = corner 0 3 ∷ corner 0 2 ∷ corner 1 2 ∷ corner 2 2 ∷ corner 2 3 ∷ corner 1 3 ∷ []

lower : List Point
lower = corner 5 1 ∷ corner 5 0 ∷ corner 6 0 ∷ corner 7 0 ∷ corner 7 1 ∷ corner 6 1 ∷ []

-- the same way round, from another point
turned : List Point
turned = corner 5 0 ∷ corner 6 0 ∷ corner 7 0 ∷ corner 7 1 ∷ corner 6 1 ∷ corner 5 1 ∷ []

-- the last corner lies as far from the first one
same_right : rightward_of round 0 4 ≡ rightward_of lower 0 4
unfolding round lower
same_right = refl

same_above : above_of round 0 1 ≡ above_of lower 0 1
unfolding round lower
same_above = refl

-- from another first point it isn't so
not_right : rightward_of turned 0 1 ≡ pos 1
unfolding turned
not_right = refl

not_above : above_of turned 0 1 ≡ pos 0
unfolding turned
not_above = refl

is_below : above_of round 0 1 ≡ negsuc 0
unfolding round
is_below = refl
