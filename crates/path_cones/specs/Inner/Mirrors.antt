-- The mirror that makes columns of rows.
use Rattle.std.specs.Prelude.{ℕ}
use Rattle.pt_core.specs.declared.point.Point.{Point}
use Rattle.path_cones.specs.declared.vector.Vector.{Vector}

-- the vector in the mirror
abbrev pub mirrored_of : Vector → Vector
mirrored_of way = record { x = way.y; y = way.x }

-- the path in the mirror
abbrev pub in_mirror : (ℕ → Point) → ℕ → Point
in_mirror path k = record { x = (path k).y; y = (path k).x }
