use Rattle.std.proofs.Common.{◌*ℤ◌, ◌^◌, w64, arith}
use Rattle.std.proofs.lemmas.Int.{to_z-of_z, fits_signed_from_abs}
use Rattle.std.specs.Int.RustNames.{FitsSigned}
use Rattle.pt_core.proofs.Sizes.{product_most}
use Rattle.corner_smooth.proofs.triangle.product.Goals as goal

pub returns-clause-value : goal.returns-clause-value
returns-clause-value c =
    let most = product_most c.args.a c.args.b (2 ^ 25) (2 ^ 25) c.requires.a c.requires.b in
    let a = c.ranges.a in
    let b = c.ranges.b in
    let ab : FitsSigned w64 (c.args.a *ℤ c.args.b) = fits_signed_from_abs w64 _ (omega arith) in
    simp to_z-of_z

pub returns-clause-most : goal.returns-clause-most
returns-clause-most c =
    let most = product_most c.args.a c.args.b (2 ^ 25) (2 ^ 25) c.requires.a c.requires.b in
    let a = c.ranges.a in
    let b = c.ranges.b in
    let ab : FitsSigned w64 (c.args.a *ℤ c.args.b) = fits_signed_from_abs w64 _ (omega arith) in
    simp to_z-of_z most
