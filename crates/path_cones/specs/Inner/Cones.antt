-- Cones of half-lines: which they hold, and those that come near the points of a path.
use Rattle.std.specs.Prelude.{ℕ, ◌<◌, ◌≤◌, ◌≢◌, zero, suc, ℤ, pos, negsuc, neg_ℤ, ◌+ℤ◌, ◌*ℤ◌, ◌≤ℤ◌, ◌<ℤ◌, unsigned_abs}
use Rattle.pt_core.specs.declared.point.Point.{Point}
use Rattle.path_cones.specs.Straight.{vector_of, IsNear}
use Rattle.path_cones.specs.declared.vector.Vector.{Vector}
use Rattle.path_cones.specs.declared.cone.Cone.{Cone}
use Rattle.path_cones.specs.declared.cone.Cone.TheVariants.{Open, Between}
use Rattle.path_cones.specs.Cones.{cross_of}

-- from a point to itself
abbrev pub nowhere : Vector
nowhere = record { x = pos 0; y = pos 0 }

-- the vector turned to the left by a right angle
abbrev pub to_left_of : Vector → Vector
to_left_of way = record { x = neg_ℤ way.y; y = way.x }

-- how far along a vector a point is, times the vector's length (their dot product)
abbrev pub rise_of : Vector → Point → ℤ
rise_of way point = way.x *ℤ point.x +ℤ way.y *ℤ point.y

-- the way lies from `low` to `high`, borders included, counted to the left
pub record IsBetween (low high way : Vector) : Type 0 where
  pub goes : way ≢ nowhere
  pub after_low : pos 0 ≤ℤ cross_of low way
  pub before_high : pos 0 ≤ℤ cross_of way high

-- the cone holds the way
abbrev pub HoldsWay : Cone → Vector → Type 0
HoldsWay Open way = Unit
HoldsWay (Between low high) way = IsBetween low high way

-- neither coordinate is greater than this
pub record IsShort (most : ℕ) (way : Vector) : Type 0 where
  pub x : unsigned_abs way.x ≤ most
  pub y : unsigned_abs way.y ≤ most

-- neither coordinate of either way is greater than this
pub record AreShort (most : ℕ) (one other : Vector) : Type 0 where
  pub first : IsShort most one
  pub second : IsShort most other

-- the borders are short, and `high` lies to the left of `low`
pub record IsProper (low high : Vector) : Type 0 where
  pub low_short : IsShort 65536 low
  pub high_short : IsShort 65536 high
  pub left : pos 0 <ℤ cross_of low high

-- the cone is open, or its borders are proper
abbrev pub IsSound : Cone → Type 0
IsSound Open = Unit
IsSound (Between low high) = IsProper low high

-- 1 where the first number is positive, or is 0 and the second is positive; else -1
abbrev pub lead_of : ℤ → ℤ → ℤ
lead_of (pos (suc u)) v = pos 1
lead_of (pos zero) (pos (suc v)) = pos 1
lead_of (pos zero) (pos zero) = negsuc 0
lead_of (pos zero) (negsuc v) = negsuc 0
lead_of (negsuc u) v = negsuc 0

-- of the square within 1 of the way's end, the corner that is farthest to the right, seen from the
-- start of the way
abbrev pub low_of : Vector → Vector
low_of way = record {
  x = way.x +ℤ lead_of way.y (neg_ℤ way.x);
  y = way.y +ℤ lead_of (neg_ℤ way.x) (neg_ℤ way.y);
}

-- and the corner that is farthest to the left
abbrev pub high_of : Vector → Vector
high_of way = record {
  x = way.x +ℤ lead_of (neg_ℤ way.y) (neg_ℤ way.x);
  y = way.y +ℤ lead_of way.x (neg_ℤ way.y);
}

-- the way ends within 1 of its start
pub record IsSmall (way : Vector) : Type 0 where
  pub x : unsigned_abs way.x ≤ 1
  pub y : unsigned_abs way.y ≤ 1

-- the way lies strictly inside of the borders
pub record IsInside (low high way : Vector) : Type 0 where
  pub after_low : pos 0 <ℤ cross_of low way
  pub before_high : pos 0 <ℤ cross_of way high

-- the cone holds exactly the half-lines from the path's start that come near its next `count` points
pub record HoldsNear (path : ℕ → Point) (count : ℕ) (cone : Cone) : Type 0 where
  pub all_near : (way : Vector) → HoldsWay cone way → (j : ℕ) → 1 ≤ j → j ≤ count
      → IsNear (vector_of (path 0) (path j)) way
  pub all_held : (way : Vector)
      → ((j : ℕ) → 1 ≤ j → j ≤ count → IsNear (vector_of (path 0) (path j)) way)
      → HoldsWay cone way

-- from the path's start, each point of its first `count` steps is near the half-line through each
-- later one
abbrev pub IsClear : (ℕ → Point) → ℕ → Type 0
IsClear path count = (j k : ℕ) → 1 ≤ j → j < k → k ≤ count
    → IsNear (vector_of (path 0) (path j)) (vector_of (path 0) (path k))
