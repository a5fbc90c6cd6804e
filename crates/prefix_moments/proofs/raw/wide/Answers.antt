use Rattle.std.proofs.Common.{◌≡◌, ◌*◌, ◌^◌, ◌≤◌, ℤ, ◌*ℤ◌, w64, to_z, of_z, refl, arith}
use Rattle.std.proofs.lemmas.Int.{ints, to_z-of_z, fits_signed_from_abs}
use Rattle.std.specs.Prelude.{unsigned_abs}
use Rattle.std.specs.Int.RustNames.{FitsSigned}
use mir.Syntax.{w128}
use Rattle.pt_core.proofs.Sizes.{back, long_back, product_most}
use Rattle.pt_core.specs.declared.limits.TheConstants.{LONGEST_SIDE}
use Rattle.prefix_moments.proofs.raw.wide.Goals as goal

module _ (a b p q : ℤ) (short : unsigned_abs a ≤ LONGEST_SIDE * LONGEST_SIDE) (fits : FitsSigned w64 b) (is_p : p ≡ to_z w64 (of_z w64 a)) (is_q : q ≡ to_z w64 (of_z w64 b)) where
  size : unsigned_abs b ≤ 2 ^ 63
  size = omega (arith, ints)

  most : unsigned_abs (a *ℤ b) ≤ 2 ^ 107
  most = let most = product_most a b (LONGEST_SIDE * LONGEST_SIDE) (2 ^ 63) short size in omega arith

  same_p : to_z w128 (of_z w128 p) ≡ a
  same_p = rw (is_p, back a (omega arith), long_back a (omega arith)) refl

  same_q : to_z w128 (of_z w128 q) ≡ b
  same_q = let small = size in rw (is_q, to_z-of_z w64 b fits, long_back b (omega arith)) refl

  fits_long : FitsSigned w128 (to_z w128 (of_z w128 p) *ℤ to_z w128 (of_z w128 q))
  fits_long = let small = most in rw (same_p, same_q) (fits_signed_from_abs w128 (a *ℤ b) (omega arith))

  is_long : to_z w128 (of_z w128 (to_z w128 (of_z w128 p) *ℤ to_z w128 (of_z w128 q))) ≡ a *ℤ b
  is_long = let small = most in rw (same_p, same_q, long_back (a *ℤ b) (omega arith)) refl

pub overflow_mul-result : goal.overflow_mul-result
overflow_mul-result c = fits_long c.args.a c.args.b c.from.result c.from-2.result c.requires c.ranges.b c.from.ensures c.from-2.ensures

pub returns-clause-value : goal.returns-clause-value
returns-clause-value c = is_long c.args.a c.args.b c.from.result c.from-2.result c.requires c.ranges.b c.from.ensures c.from-2.ensures

pub returns-clause-most : goal.returns-clause-most
returns-clause-most c = rw (returns-clause-value c) (most c.args.a c.args.b c.from.result c.from-2.result c.requires c.ranges.b c.from.ensures c.from-2.ensures)
