-- Slopes of ways, small enough to be computed with.
use Rattle.std.specs.Prelude.{ℕ, ◌≤◌}
use Rattle.path_cones.specs.declared.slopes.Slope.{Slope}
use Rattle.path_cones.specs.declared.slopes.Slopes.{Slopes}
use Rattle.path_cones.specs.declared.slopes.Descent.{Descent}
use Rattle.path_cones.specs.declared.slopes.Descended.{Descended}
use Rattle.path_cones.specs.declared.slopes.Descended.TheVariants.{Found, Farther}

-- neither coordinate is greater than this
pub record IsSlope (most : ℕ) (slope : Slope) : Type 0 where
  pub right : slope.right ≤ most
  pub up : slope.up ≤ most

-- neither coordinate of either slope is greater than 131,072
pub record AreSmallSlopes (slopes : Slopes) : Type 0 where
  pub flat : IsSlope 131072 slopes.flat
  pub steep : IsSlope 131072 slopes.steep

-- the slopes of a descent are small
pub record IsDescent (descent : Descent) : Type 0 where
  pub between : AreSmallSlopes descent.between
  pub before : IsSlope 65535 descent.before
  pub last : IsSlope 65535 descent.last

-- the slope that was found is small, or the slopes of the descent farther on are
abbrev pub IsDescended : Descended → Type 0
IsDescended (Found slope) = IsSlope 65535 slope
IsDescended (Farther descent) = IsDescent descent
