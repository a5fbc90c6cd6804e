-- How large the numbers of a cubic curve are.
use Rattle.std.specs.Prelude.{ℕ, ◌≤◌, ℤ, unsigned_abs}
use Rattle.curve_join.specs.Vector.{IsPlaced}
use Rattle.curve_join.specs.declared.cubic.Cubic.{Cubic}

-- no coordinate of the curve's points is farther from 0 than this
pub record LiesWithin (most : ℕ) (c : Cubic) : Type 0 where
  pub start : IsPlaced most c.start
  pub first : IsPlaced most c.first
  pub second : IsPlaced most c.second
  pub end : IsPlaced most c.end

-- no coefficient of a quadratic is farther from 0 than this
pub record AreWithin (most : ℕ) (x y z : ℤ) : Type 0 where
  pub a : unsigned_abs x ≤ most
  pub b : unsigned_abs y ≤ most
  pub c : unsigned_abs z ≤ most
