use Rattle.std.proofs.Common.{◌≡◌, ◌-ℤ◌, ◌*ℤ◌, FitsSigned, w64, to_z, of_z, arith}
use Rattle.std.proofs.lemmas.Int.{ints, fits_signed_from_abs}
use Rattle.pt_core.proofs.Sizes.{back}
use Rattle.path_cones.specs.Cones.{cross_of}
use Rattle.path_cones.specs.Inner.Cones.{IsShort}
use Rattle.path_cones.specs.declared.vector.Vector.{Vector}
use Rattle.path_cones.proofs.Bounds.{product_small, product_back, product_fits}
use Rattle.path_cones.proofs.vector.Vector.cross.Goals as goal

crossed : (a b : Vector) → IsShort 65536 a → IsShort 65536 b
    → to_z w64 (of_z w64 (to_z w64 (of_z w64 (to_z w64 (of_z w64 a.x) *ℤ to_z w64 (of_z w64 b.y))) -ℤ to_z w64 (of_z w64 (to_z w64 (of_z w64 a.y) *ℤ to_z w64 (of_z w64 b.x))))) ≡ cross_of a b
crossed a b sa sb =
    let p1 = product_small a.x b.y sa.x sb.y in
    let p2 = product_small a.y b.x sa.y sb.x in
    rw (product_back a.x b.y sa.x sb.y, product_back a.y b.x sa.y sb.x) (back (a.x *ℤ b.y -ℤ a.y *ℤ b.x) (omega (arith, ints)))

fits : (a b : Vector) → IsShort 65536 a → IsShort 65536 b
    → FitsSigned w64 (to_z w64 (of_z w64 (to_z w64 (of_z w64 a.x) *ℤ to_z w64 (of_z w64 b.y))) -ℤ to_z w64 (of_z w64 (to_z w64 (of_z w64 a.y) *ℤ to_z w64 (of_z w64 b.x))))
fits a b sa sb =
    let p1 = product_small a.x b.y sa.x sb.y in
    let p2 = product_small a.y b.x sa.y sb.x in
    rw (product_back a.x b.y sa.x sb.y, product_back a.y b.x sa.y sb.x) (fits_signed_from_abs w64 (a.x *ℤ b.y -ℤ a.y *ℤ b.x) (omega (arith, ints)))

pub overflow_mul-result : goal.overflow_mul-result
overflow_mul-result c = product_fits c.args.self.x c.args.other.y c.requires.first.x c.requires.second.y

pub overflow_mul-result-2 : goal.overflow_mul-result-2
overflow_mul-result-2 c = product_fits c.args.self.y c.args.other.x c.requires.first.y c.requires.second.x

pub overflow_sub-result : goal.overflow_sub-result
overflow_sub-result c = fits c.args.self c.args.other c.requires.first c.requires.second

pub returns : goal.returns
returns c = crossed c.args.self c.args.other c.requires.first c.requires.second
