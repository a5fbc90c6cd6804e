-- Points, pieces and paths that are moved.
use Rattle.std.specs.Prelude.{◌≡◌, ℕ, ℤ, pos, ◌+ℤ◌, ◌*ℤ◌, List, length}
use Rattle.pt_core.specs.ClosedWalk.{point_at}
use Rattle.pt_core.specs.declared.piece.Piece.{Piece}
use Rattle.pt_core.specs.declared.piece.Piece.TheVariants.{Corner, Curve}
use Rattle.pt_core.specs.declared.point.Point.{Point}

-- a point, moved this far to the right and up
abbrev pub moved_by : ℤ → ℤ → Point → Point
moved_by right up p = record { x = p.x +ℤ right; y = p.y +ℤ up }

-- a piece, moved this far to the right and up
abbrev pub piece_moved_by : ℤ → ℤ → Piece → Piece
piece_moved_by right up (Corner at end) = Corner (moved_by right up at) (moved_by right up end)
piece_moved_by right up (Curve first second end al) = Curve (moved_by right up first) (moved_by right up second) (moved_by right up end) al

-- a number of pixels in units of 1/1024 pixel
abbrev pub in_units : ℤ → ℤ
in_units pixels = pos 1024 *ℤ pixels

-- the second path is the first one, with each point moved this number of pixels to the right and up
pub record AreMoved (right up : ℤ) (points other : List Point) : Type 0 where
  pub count : length other ≡ length points
  pub each : (k : ℕ) → point_at other k ≡ moved_by right up (point_at points k)
