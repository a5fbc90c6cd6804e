-- The definitions on the paths round two and three pixels in a row.
use Rattle.std.proofs.Common.{◌≡◌, ℕ, pos, List, [], ◌∷◌, refl, arith}
use Rattle.std.specs.Ordering.{nat_cmp}
use Rattle.std.specs.Cmp.Lexicographic.{slice_cmp}
use Rattle.std.specs.declared.cmp.Ordering.TheVariants.{Less}
use Rattle.pt_core.specs.declared.point.Point.{Point}
use Rattle.pt_core.specs.Root.{IsRoot, root_of}
use Rattle.pt_core.proofs.Roots.{root_is, root_is_one}
use Rattle.polygon_search.specs.Polygon.{penalty_of, total_penalty}

abbrev corner : ℕ → ℕ → Point
corner x y = record { x = pos x; y = pos y }

-- a root, by the test
root : (n r : ℕ) → IsRoot n r → root_of n ≡ r
root n r is = root_is_one n (root_of n) r (root_is n) is

-- 0 -- 5 -- 4
-- |         |
-- 1 -- 2 -- 3
two : List Point
two = corner 0 1 ∷ corner 0 0 ∷ corner 1 0 ∷ corner 2 0 ∷ corner 2 1 ∷ corner 1 1 ∷ []

-- the two segments that cut a corner, and the one that follows the path
two_first : penalty_of two 0 2 ≡ 147
unfolding penalty_of two
two_first = root 21845 147 (record { reaches = omega arith; falls_short = omega arith })

two_second : penalty_of two 2 4 ≡ 147
unfolding penalty_of two
two_second = root 21845 147 (record { reaches = omega arith; falls_short = omega arith })

two_last : penalty_of two 4 6 ≡ 0
unfolding penalty_of two
two_last = root 0 0 (record { reaches = omega arith; falls_short = omega arith })

-- the best polygon's penalty
two_together : total_penalty two (0 ∷ 2 ∷ 4 ∷ []) ≡ 294
unfolding two
two_together = omega (arith, two_first, two_second, two_last)

-- 0 -- 7 -- 6 -- 5
-- |              |
-- 1 -- 2 -- 3 -- 4
three : List Point
three = corner 0 1 ∷ corner 0 0 ∷ corner 1 0 ∷ corner 2 0 ∷ corner 3 0 ∷ corner 3 1 ∷ corner 2 1 ∷ corner 1 1 ∷ []

short : penalty_of three 0 2 ≡ 147
unfolding penalty_of three
short = root 21845 147 (record { reaches = omega arith; falls_short = omega arith })

-- over three steps: the mean of 1, 4, 0 and 0 is 5/4
long : penalty_of three 2 5 ≡ 286
unfolding penalty_of three
long = root 81920 286 (record { reaches = omega arith; falls_short = omega arith })

long_first : penalty_of three 0 3 ≡ 286
unfolding penalty_of three
long_first = root 81920 286 (record { reaches = omega arith; falls_short = omega arith })

short_second : penalty_of three 3 5 ≡ 147
unfolding penalty_of three
short_second = root 21845 147 (record { reaches = omega arith; falls_short = omega arith })

straight : penalty_of three 5 8 ≡ 0
unfolding penalty_of three
straight = root 0 0 (record { reaches = omega arith; falls_short = omega arith })

-- two polygons tie, and the first of them is the lower list
one_way : total_penalty three (0 ∷ 2 ∷ 5 ∷ []) ≡ 433
unfolding three
one_way = omega (arith, short, long, straight)

other_way : total_penalty three (0 ∷ 3 ∷ 5 ∷ []) ≡ 433
unfolding three
other_way = omega (arith, long_first, short_second, straight)

lower : slice_cmp nat_cmp (0 ∷ 2 ∷ 5 ∷ 8 ∷ []) (0 ∷ 3 ∷ 5 ∷ 8 ∷ []) ≡ Less
lower = refl
