use Rattle.std.proofs.Common.{◌+◌, ◌*◌, ◌*ℤ◌, w64, arith}
use Rattle.std.proofs.lemmas.Int.{to_z-of_z, fits_signed_from_abs}
use Rattle.std.specs.Int.RustNames.{FitsSigned}
use Rattle.pt_core.proofs.Sizes.{product_most}
use Rattle.pt_core.specs.declared.limits.TheConstants.{LONGEST_SIDE, MOST_STEPS}
use Rattle.prefix_moments.proofs.raw.product.Goals as goal

pub returns-clause-value : goal.returns-clause-value
returns-clause-value c =
    let most = product_most c.args.coordinate c.args.sum LONGEST_SIDE (2 * (MOST_STEPS + 1) * LONGEST_SIDE) c.requires.coordinate c.requires.sum in
    let a = c.ranges.coordinate in
    let b = c.ranges.sum in
    let ab : FitsSigned w64 (c.args.coordinate *ℤ c.args.sum) = fits_signed_from_abs w64 _ (omega arith) in
    simp to_z-of_z

pub returns-clause-most : goal.returns-clause-most
returns-clause-most c =
    let most = product_most c.args.coordinate c.args.sum LONGEST_SIDE (2 * (MOST_STEPS + 1) * LONGEST_SIDE) c.requires.coordinate c.requires.sum in
    let a = c.ranges.coordinate in
    let b = c.ranges.sum in
    let ab : FitsSigned w64 (c.args.coordinate *ℤ c.args.sum) = fits_signed_from_abs w64 _ (omega arith) in
    simp to_z-of_z most
