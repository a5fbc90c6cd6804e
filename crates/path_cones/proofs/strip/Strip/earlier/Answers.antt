use Rattle.std.proofs.Common.{◌≡◌, false, ◌≤◌, ℤ, pos, ◌-ℤ◌, ◌*ℤ◌, ◌≤ℤ◌, unsigned_abs, FitsSigned, w64, to_z, of_z, sym, subst, arith}
use Rattle.std.proofs.lemmas.Int.{ints, to_z-of_z}
use Rattle.std.specs.Int.Signed.{lt_z}
use Rattle.path_cones.specs.Inner.Strips.{IsFromTo}
use Rattle.path_cones.specs.Inner.Wedges.{IsSign}
use Rattle.path_cones.proofs.Quarters.{sign_most}
use Rattle.path_cones.proofs.Stepping.{breadth_fits, earlier_strip}
use Rattle.path_cones.proofs.strip.Strip.earlier.Goals as goal

-- one step in the quarter
onward_most : (s z r : ℤ) → IsSign s → unsigned_abs z ≤ 1 → r ≡ s *ℤ z → unsigned_abs r ≤ 1
onward_most s z r sign small is = let P : ℤ → Type 0 = λ u. unsigned_abs u ≤ 1 in subst P (sym is) (sign_most s z 1 sign small)

back_fits : (b o : ℤ) → IsFromTo (pos 0) (pos 1) b → unsigned_abs o ≤ 1 → FitsSigned w64 (to_z w64 (of_z w64 b) -ℤ to_z w64 (of_z w64 o))
back_fits b o behind small =
    let least = behind.least in
    let most = behind.most in
    omega (arith, ints)

pub overflow_sub-self : goal.overflow_sub-self
overflow_sub-self c =
    back_fits c.args.self.back.x c.turned-onward.result.x c.requires.strip.back_x
    (onward_most _ _ c.turned-onward.result.x c.requires.strip.quarter.right c.requires.step.x c.turned-onward.ensures.x)

pub overflow_sub-self-2 : goal.overflow_sub-self-2
overflow_sub-self-2 c =
    back_fits c.args.self.back.y c.turned-onward.result.y c.requires.strip.back_y
    (onward_most _ _ c.turned-onward.result.y c.requires.strip.quarter.up c.requires.step.y c.turned-onward.ensures.y)

-- what the tests tell, in whole numbers
back_tested : (b o r : ℤ) → IsFromTo (pos 0) (pos 1) b → unsigned_abs o ≤ 1 → FitsSigned w64 r → pos 0 ≤ℤ r
    → to_z w64 (of_z w64 (to_z w64 (of_z w64 b) -ℤ to_z w64 (of_z w64 o))) ≤ℤ r → lt_z (pos 1) (to_z w64 (of_z w64 r)) ≡ false
    → ((b -ℤ o) ≤ℤ r) × IsFromTo (pos 0) (pos 1) r
back_tested b o r behind small fits some more most =
    let least = behind.least in
    let greatest = behind.most in
    (omega (arith, ints), record { least = omega (arith, ints); most = omega (arith, ints) })

pub returns : goal.returns
returns c =
    let strip = c.requires.strip in
    let across = c.in_ok-across.ensures in
    let span = c.in_ok-across.across in
    let onward_x = onward_most _ _ c.turned-onward.result.x strip.quarter.right c.requires.step.x c.turned-onward.ensures.x in
    let onward_y = onward_most _ _ c.turned-onward.result.y strip.quarter.up c.requires.step.y c.turned-onward.ensures.y in
    let f1 = breadth_fits c.args.self strip in
    let f5 : FitsSigned w64 c.greater-back_x.result = record { sfits = c.greater-back_x.type_inv } in
    let f6 : FitsSigned w64 c.greater-back_y.result = record { sfits = c.greater-back_y.type_inv } in
    let back_x = back_tested c.args.self.back.x c.turned-onward.result.x c.greater-back_x.result strip.back_x onward_x f5
    c.greater-back_x.ensures.first c.greater-back_x.ensures.second c.if-back_x-gt1.false in
    let back_y = back_tested c.args.self.back.y c.turned-onward.result.y c.greater-back_y.result strip.back_y onward_y f6
    c.greater-back_y.ensures.first c.greater-back_y.ensures.second c.if-back_y-gt1.false in
    let x_more = subst (λ (z : ℤ). (c.args.self.back.x -ℤ z) ≤ℤ c.greater-back_x.result) c.turned-onward.ensures.x back_x.0 in
    let y_more = subst (λ (z : ℤ). (c.args.self.back.y -ℤ z) ≤ℤ c.greater-back_y.result) c.turned-onward.ensures.y back_y.0 in
    simp to_z-of_z (earlier_strip c.args.self span c.greater-back_x.result c.greater-back_y.result c.args.step strip across
    back_x.1 x_more back_y.1 y_more)
