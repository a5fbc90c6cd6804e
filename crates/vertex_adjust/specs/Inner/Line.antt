-- The normal of a segment's line.
use Rattle.std.specs.Prelude.{◌≡◌, ◌≤◌, ◌^◌, neg_ℤ, unsigned_abs}
use Rattle.vertex_adjust.specs.declared.spread.Covariance.{Covariance}
use Rattle.vertex_adjust.specs.declared.normal.Normal.{Normal}
use Rattle.vertex_adjust.specs.Line.{IsEnlarged, direction_of, length_of, ratio_of}

-- the normal of the line of points with this spread
pub record IsNormal (normal : Normal) : Type 0 where
  pub larger : Covariance
  pub enlarged : IsEnlarged normal.spread larger
  pub right : normal.right ≡ ratio_of (neg_ℤ (direction_of larger).up) (length_of (direction_of larger))
  pub up : normal.up ≡ ratio_of (direction_of larger).right (length_of (direction_of larger))
  pub right_most : unsigned_abs normal.right ≤ 2 ^ 12
  pub up_most : unsigned_abs normal.up ≤ 2 ^ 12
