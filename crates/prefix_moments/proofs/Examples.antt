-- The definitions on the path round two pixels in a row.
use Rattle.std.proofs.Common.{◌≡◌, ℕ, pos, negsuc, List, [], ◌∷◌, refl}
use Rattle.pt_core.specs.declared.point.Point.{Point}
use Rattle.prefix_moments.specs.Sums.{sums_of, chord_cross_of, spread_of}
use Rattle.prefix_moments.specs.Inner.Table.{less_of}

abbrev corner : ℕ → ℕ → Point
corner x y = record { x = pos x; y = pos y }

-- 0 -- 5 -- 4
-- |         |
-- 1 -- 2 -- 3
round : List Point
round = corner 0 1 ∷ corner 0 0 ∷ corner 1 0 ∷ corner 2 0 ∷ corner 2 1 ∷ corner 1 1 ∷ []

-- down and to the right
down_and_right : sums_of round 0 2 ≡ record { count = 3; x = pos 1; y = negsuc 1; xx = pos 1; xy = negsuc 0; yy = pos 2 }
unfolding round
down_and_right = refl

-- along the upper side, past the last point
past_the_last : sums_of round 4 6 ≡ record { count = 3; x = negsuc 2; y = pos 0; xx = pos 5; xy = pos 0; yy = pos 0 }
unfolding round
past_the_last = refl

-- the lower left corner lies beside the line from point 0 to point 2, and point 5 on the one from 4 to 6
beside : chord_cross_of round 0 2 1 ≡ pos 1
unfolding round
beside = refl

spread_out : spread_of round 0 2 ≡ pos 1
unfolding round
spread_out = refl

in_line : spread_of round 4 6 ≡ pos 0
unfolding round
in_line = refl

-- a difference of rows is right where the rows themselves were cut
wrapped : less_of (record { x = 1; y = 2; xx = 5; xy = 0; yy = 3 }) (record { x = 4294967295; y = 0; xx = 18446744073709551614; xy = 0; yy = 3 })
    ≡ record { x = 2; y = 2; xx = 7; xy = 0; yy = 0 }
wrapped = refl
