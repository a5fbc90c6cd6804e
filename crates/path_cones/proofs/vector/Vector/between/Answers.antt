use Rattle.std.proofs.Common.{◌≡◌, ℤ, ◌-ℤ◌, FitsSigned, w32, w64, to_z, of_z, rules, arith}
use Rattle.std.proofs.lemmas.Int.{ints}
use Rattle.path_cones.proofs.Bounds.{same_vector}
use Rattle.path_cones.proofs.vector.Vector.between.Goals as goal

difference : (a b a' b' : ℤ) → a' ≡ to_z w32 (of_z w32 a) → b' ≡ to_z w32 (of_z w32 b) → FitsSigned w32 a → FitsSigned w32 b
    → to_z w64 (of_z w64 (to_z w64 (of_z w64 a') -ℤ to_z w64 (of_z w64 b'))) ≡ a -ℤ b
difference a b a' b' e f g h = omega (arith, ints)

pub returns : goal.returns
returns c =
    let f1 : FitsSigned w32 c.args.from.x = search rules in
    let f2 : FitsSigned w32 c.args.from.y = search rules in
    let f3 : FitsSigned w32 c.args.to.x = search rules in
    let f4 : FitsSigned w32 c.args.to.y = search rules in
    let e1 = difference c.args.to.x c.args.from.x _ _ c.from.ensures c.from-2.ensures f3 f1 in
    let e2 = difference c.args.to.y c.args.from.y _ _ c.from-3.ensures c.from-4.ensures f4 f2 in
    same_vector _ _ _ _ e1 e2
