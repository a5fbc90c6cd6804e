use Rattle.std.proofs.Common.{ℤ, ◌+ℤ◌, w32, to_z, of_z, arith}
use Rattle.std.proofs.lemmas.Int.{ints, fits_signed_from_abs}
use Rattle.std.specs.Int.RustNames.{FitsSigned}
use Rattle.corner_smooth.specs.Corner.{IsInReach}
use Rattle.corner_smooth.proofs.Fitting.{coordinate_back}
use Rattle.corner_smooth.proofs.vertex.half_way.Goals as goal

both_fit : (a b : ℤ) → IsInReach a → IsInReach b → FitsSigned w32 (to_z w32 (of_z w32 a) +ℤ to_z w32 (of_z w32 b))
both_fit a b in_a in_b =
    let a_low = in_a.low in
    let a_high = in_a.high in
    let b_low = in_b.low in
    let b_high = in_b.high in
    rw (coordinate_back a in_a, coordinate_back b in_b) (fits_signed_from_abs w32 (a +ℤ b) (omega (arith, ints)))

pub overflow_add-a : goal.overflow_add-a
overflow_add-a c = both_fit c.args.a c.args.b c.requires.a c.requires.b
