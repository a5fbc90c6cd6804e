-- Places that lie on a page, or not far off it. They are in units of which a pixel has 1024.
use Rattle.std.specs.Prelude.{ℕ, ◌+◌, ◌*◌, pos, ℤ, ◌+ℤ◌, ◌≤ℤ◌}
use Rattle.pt_core.specs.declared.piece.Piece.{Piece}
use Rattle.pt_core.specs.declared.piece.Piece.TheVariants.{Corner, Curve}
use Rattle.pt_core.specs.declared.point.Point.{Point}

-- the coordinate is from 0 to a side of so many pixels, or at most so far off
pub record IsAlmostOn (most side : ℕ) (c : ℤ) : Type 0 where
  pub low : pos 0 ≤ℤ (c +ℤ pos most)
  pub high : c ≤ℤ pos (1024 * side + most)

-- the place is on a page of this width and height, or at most so far off it
pub record IsAlmostOnPage (most width height : ℕ) (p : Point) : Type 0 where
  pub x : IsAlmostOn most width p.x
  pub y : IsAlmostOn most height p.y

-- it holds of each point that draws a piece: a corner and its end, or a curve's controls and its end
abbrev pub OfPoints : (Point → Type 0) → Piece → Type 0
OfPoints P (Corner at end) = P at × P end
OfPoints P (Curve first second end al) = P first × P second × P end
