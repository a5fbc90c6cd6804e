-- A coordinate of a cubic curve as a polynomial in u, which is 262,144 (64^3) times the coordinate at u / 64.
use Rattle.std.specs.Prelude.{◌≡◌, ℕ, ◌≤◌, ◌^◌, ℤ, pos, ◌+ℤ◌, ◌-ℤ◌, ◌*ℤ◌, unsigned_abs}
use Rattle.curve_join.specs.declared.stand_in.Powers.{Powers}

-- the polynomial's coefficients, from this coordinate of the curve's start and of the three legs of its control polygon
pub record ArePowersOf (start first second third : ℤ) (p : Powers) : Type 0 where
  pub constant : p.constant ≡ pos 262144 *ℤ start
  pub linear : p.linear ≡ pos 12288 *ℤ first
  pub square : p.square ≡ pos 192 *ℤ (second -ℤ first)
  pub cube : p.cube ≡ (third -ℤ second) -ℤ (second -ℤ first)

-- the coefficients are small enough for sums in 64 bits
pub record AreSmallPowers (p : Powers) : Type 0 where
  pub constant : unsigned_abs p.constant ≤ 2 ^ 48
  pub linear : unsigned_abs p.linear ≤ 2 ^ 44
  pub square : unsigned_abs p.square ≤ 2 ^ 40
  pub cube : unsigned_abs p.cube ≤ 2 ^ 33

-- the polynomial at u, by Horner's rule
abbrev pub power_sum : Powers → ℕ → ℤ
power_sum p u = ((p.cube *ℤ pos u +ℤ p.square) *ℤ pos u +ℤ p.linear) *ℤ pos u +ℤ p.constant
