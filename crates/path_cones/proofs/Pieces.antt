-- A straight subpath by its first step, its cones and its rest.
use Rattle.std.proofs.Common.{ℕ, zero, suc, ◌<◌, ◌≤◌, arith}
use Rattle.pt_core.specs.declared.point.Point.{Point}
use Rattle.path_cones.specs.Straight.{vector_of, IsNear, IsStraight, Takes, TakesAllFour, east, north, west, south}
use Rattle.path_cones.specs.Inner.Cones.{IsClear}
use Rattle.path_cones.specs.declared.vector.Vector.{Vector}

-- the path without its first step
abbrev pub rest_of : (ℕ → Point) → ℕ → Point
rest_of path k = path (suc k)

pub takes_later : (path : ℕ → Point) (c : ℕ) (step : Vector) → Takes (rest_of path) c step → Takes path (suc c) step
takes_later path c step t = record { k = suc t.k; early = omega (arith, t.early); taken = t.taken }

four_later : (path : ℕ → Point) (c : ℕ) → TakesAllFour (rest_of path) c → TakesAllFour path (suc c)
four_later path c t = record {
  east = takes_later path c east t.east;
  north = takes_later path c north t.north;
  west = takes_later path c west t.west;
  south = takes_later path c south t.south;
}

pub without_first : (path : ℕ → Point) (c : ℕ) → IsStraight path (suc c) → IsStraight (rest_of path) c
without_first path c s = record {
  not_all_four = λ t. s.not_all_four (four_later path c t);
  near = λ i j k h l m. s.near (suc i) (suc j) (suc k) (omega arith) (omega arith) (omega arith);
}

pub is_clear : (path : ℕ → Point) (c : ℕ) → IsStraight path c → IsClear path c
is_clear path c s = λ j k h l m. s.near 0 j k (omega arith) l m

near_with_first : (path : ℕ → Point) (c : ℕ) → IsClear path (suc c) → IsStraight (rest_of path) c
    → (i j k : ℕ) → i < j → j < k → k ≤ suc c → IsNear (vector_of (path i) (path j)) (vector_of (path i) (path k))
near_with_first path c clear s zero j k h l m = clear j k (omega arith) l m
near_with_first path c clear s (suc i) zero k h l m = absurd (omega arith)
near_with_first path c clear s (suc i) (suc j) zero h l m = absurd (omega arith)
near_with_first path c clear s (suc i) (suc j) (suc k) h l m = s.near i j k (omega arith) (omega arith) (omega arith)

pub with_first : (path : ℕ → Point) (c : ℕ) → ¬ TakesAllFour path (suc c) → IsClear path (suc c)
    → IsStraight (rest_of path) c → IsStraight path (suc c)
with_first path c not_four clear s = record { not_all_four = not_four; near = near_with_first path c clear s }

pub takes_nothing : (path : ℕ → Point) (step : Vector) → ¬ Takes path 0 step
takes_nothing path step t = absurd (omega (arith, t.early))

pub none_is_straight : (path : ℕ → Point) → IsStraight path 0
none_is_straight path = record {
  not_all_four = λ t. takes_nothing path east t.east;
  near = λ i j k h l m. absurd (omega arith);
}

pub takes_more : (path : ℕ → Point) (c d : ℕ) (step : Vector) → c ≤ d → Takes path c step → Takes path d step
takes_more path c d step h t = record { k = t.k; early = omega (arith, t.early); taken = t.taken }

pub four_more : (path : ℕ → Point) (c d : ℕ) → c ≤ d → TakesAllFour path c → TakesAllFour path d
four_more path c d h t = record {
  east = takes_more path c d east h t.east;
  north = takes_more path c d north h t.north;
  west = takes_more path c d west h t.west;
  south = takes_more path c d south h t.south;
}

-- a shorter subpath is straight too
pub shorter : (path : ℕ → Point) (c d : ℕ) → c ≤ d → IsStraight path d → IsStraight path c
shorter path c d h s = record {
  not_all_four = λ t. s.not_all_four (four_more path c d h t);
  near = λ i j k l m n. s.near i j k l m (omega arith);
}
