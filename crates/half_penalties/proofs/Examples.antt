-- The definitions on the path round two pixels in a row.
use Rattle.std.proofs.Common.{◌≡◌, ℕ, pos, negsuc, List, [], ◌∷◌, refl, arith}
use Rattle.std.proofs.lemmas.Int.{ints}
use Rattle.pt_core.specs.declared.point.Point.{Point}
use Rattle.half_penalties.specs.Inner.HalfPenalties.{GoesOneWay, IsBoundBefore, crosses_of}
use Rattle.half_penalties.specs.Inner.Products.{products_about, AreHalfSums}
use Rattle.half_penalties.proofs.Forms.{bound_shown}
use Rattle.half_penalties.proofs.Sums.{half_bound, squares_are}

abbrev corner : ℕ → ℕ → Point
corner x y = record { x = pos x; y = pos y }

-- 0 -- 5 -- 4
-- |         |
-- 1 -- 2 -- 3
round : List Point
round = corner 0 1 ∷ corner 0 0 ∷ corner 1 0 ∷ corner 2 0 ∷ corner 2 1 ∷ corner 1 1 ∷ []

-- down and to the right, along the diagonal that falls, and to the right and up along the one that rises
falls : GoesOneWay round (negsuc 0) 0 3
unfolding round
falls = refl

rises : GoesOneWay round (pos 1) 1 4
unfolding round
rises = refl

-- the squared cross products of the points from number 0 to number 2 with the chord that suits them best
beside : crosses_of round 0 0 2 (pos 2) (negsuc 2) ≡ pos 5
unfolding round
beside = refl

-- so much these points add to the penalty of each segment from point number 0
so_much : IsBoundBefore round (negsuc 0) 2 0 161
unfolding round
so_much =
    let sums : AreHalfSums (products_about round 0 0 2) = record { xx = omega arith; xy = omega arith; yy = omega arith; squares = squares_are round 0 0 2 } in
    half_bound round 0 0 2 (negsuc 0) 2 161
    (bound_shown (products_about round 0 0 2) (negsuc 0) 2 161 sums refl (record { some = omega (arith, ints); reached = omega (arith, ints); small = omega arith }))

-- and no more
no_more : ¬ IsBoundBefore round (negsuc 0) 2 0 162
unfolding round
no_more = λ is. (let h = is (pos 2) (negsuc 2) in omega (arith, ints, h))
