-- Quarters of the plane, and ways that go into one.
use Rattle.std.specs.Prelude.{◌≡◌, ◌⊎◌, ℤ, pos, negsuc, ◌+ℤ◌, ◌*ℤ◌, ◌≤ℤ◌}
use Rattle.path_cones.specs.declared.vector.Vector.{Vector}
use Rattle.path_cones.specs.declared.quarter.Quarter.{Quarter}

-- 1 or -1
abbrev pub IsSign : ℤ → Type 0
IsSign z = (z ≡ pos 1) ⊎ (z ≡ negsuc 0)

-- both of its numbers are signs
pub record IsQuarter (quarter : Quarter) : Type 0 where
  pub right : IsSign quarter.right
  pub up : IsSign quarter.up

-- how far a vector goes into the quarter, in both coordinates together
abbrev pub far_of : Quarter → Vector → ℤ
far_of quarter way = quarter.right *ℤ way.x +ℤ quarter.up *ℤ way.y

-- the vector that goes into the quarter by 1 in each coordinate
abbrev pub diagonal_of : Quarter → Vector
diagonal_of quarter = record { x = quarter.right; y = quarter.up }

-- the way goes back in neither coordinate of the quarter
pub record GoesOnward (quarter : Quarter) (way : Vector) : Type 0 where
  pub right : pos 0 ≤ℤ (quarter.right *ℤ way.x)
  pub up : pos 0 ≤ℤ (quarter.up *ℤ way.y)
