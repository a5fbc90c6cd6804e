-- Whole numbers that are natural ones.
use Rattle.std.proofs.Common.{◌≡◌, ◌*◌, ℤ, pos, negsuc, ◌*ℤ◌, ◌≤ℤ◌, arith}
use Rattle.std.proofs.lemmas.Int.{ints}
use Rattle.std.specs.Prelude.{unsigned_abs}

-- a square
pub square_is : (z : ℤ) → z *ℤ z ≡ pos (unsigned_abs z * unsigned_abs z)
square_is (pos n) = omega (arith, ints)
square_is (negsuc n) = omega (arith, ints)

-- a number that isn't below zero
pub natural : (z : ℤ) → pos 0 ≤ℤ z → z ≡ pos (unsigned_abs z)
natural z h = omega (arith, ints)
