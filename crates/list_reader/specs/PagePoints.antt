-- Bounds for the entries of a list of points, or of indices of points.
use Rattle.std.specs.Prelude.{ℕ, ◌<◌, ◌^◌, pos, ◌≤ℤ◌}
use Rattle.pt_core.specs.declared.point.Point.{Point}

-- the point lies on a page with these sides
pub record IsInPage (width height : ℕ) (p : Point) : Type 0 where
  pub left : pos 0 ≤ℤ p.x
  pub right : p.x ≤ℤ pos width
  pub bottom : pos 0 ≤ℤ p.y
  pub top : p.y ≤ℤ pos height

-- an index fits 32 bits
abbrev pub IsIndex : ℕ → Type 0
IsIndex i = i < 2 ^ 32
