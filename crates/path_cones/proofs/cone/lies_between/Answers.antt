use Rattle.std.proofs.Common.{◌≡◌, ◌↔◌, IsTrue, ℤ, pos, ◌≤ℤ◌, w64, to_z, of_z, FitsSigned, arith, rules}
use Rattle.std.proofs.lemmas.Int.{ints}
use Rattle.path_cones.specs.Cones.{cross_of}
use Rattle.path_cones.specs.Inner.Cones.{nowhere}
use Rattle.path_cones.proofs.cone.lies_between.Goals as goal
use lib.Signed.{le_z}

test_is : (z : ℤ) → FitsSigned w64 z → IsTrue (le_z (pos 0) (to_z w64 (of_z w64 z))) ↔ (pos 0 ≤ℤ z)
test_is z f = (λ t. omega (arith, ints), λ h. grind (arith, ints))

pub returns : goal.returns
returns c =
    let goes : ¬ (c.args.way ≡ nowhere) = search rules in
    let f : FitsSigned w64 c.cross-2.result = search rules in
    let g : FitsSigned w64 c.cross.result = search rules in
    let t = test_is c.cross-2.result f in
    let e = c.cross-2.ensures in
    let after : pos 0 ≤ℤ cross_of c.args.low c.args.way = omega (arith, ints) in (
      λ h. let x = t.0 h in record { goes = goes; after_low = after; before_high = omega (arith, ints) },
      λ held. t.1 (omega (arith, ints)),
    )
