-- Places as texts have them.
use Rattle.std.specs.Prelude.{ℕ, pos, ◌*ℤ◌}
use Rattle.pt_core.specs.declared.point.Point.{Point}
use Rattle.pt_core.specs.Floor.{rounded}

-- a place that a text rounds to units, of which a pixel has so many: in 1/1024 of these
abbrev pub as_written : ℕ → Point → Point
as_written unit p = record { x = pos 1024 *ℤ rounded p.x unit; y = pos 1024 *ℤ rounded p.y unit }
