-- The side on which a vector lies of another one.
use Rattle.std.specs.Prelude.{ℤ, ◌-ℤ◌, ◌*ℤ◌}
use Rattle.path_cones.specs.declared.vector.Vector.{Vector}

-- the cross product: positive where b lies to the left of a
abbrev pub cross_of : Vector → Vector → ℤ
cross_of a b = a.x *ℤ b.y -ℤ a.y *ℤ b.x
