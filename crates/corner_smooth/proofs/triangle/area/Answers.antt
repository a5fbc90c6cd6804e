use Rattle.std.proofs.Common.{◌^◌, ◌≤◌, ℕ, ℤ, ◌-ℤ◌, unsigned_abs, w64, to_z, of_z, refl, sym, subst, arith}
use Rattle.std.proofs.lemmas.Int.{fits_signed_from_abs}
use Rattle.std.specs.Int.RustNames.{FitsSigned}
use Rattle.pt_core.proofs.Sizes.{back}
use Rattle.corner_smooth.proofs.Fitting.{difference_is, difference_passed, reach_passed, product_is, size_is, size_most}
use Rattle.corner_smooth.proofs.triangle.area.Goals as goal

products_differ : (p q : ℤ) → unsigned_abs p ≤ 2 ^ 50 → unsigned_abs q ≤ 2 ^ 50 → FitsSigned w64 (to_z w64 (of_z w64 p) -ℤ to_z w64 (of_z w64 q))
products_differ p q h k =
    let most = size_most p q h k in
    rw (back p (omega arith), back q (omega arith)) (fits_signed_from_abs w64 (p -ℤ q) (omega arith))

pub overflow_sub-across : goal.overflow_sub-across
overflow_sub-across c = products_differ c.product-across.result c.product-along.result c.product-across.ensures.most c.product-along.ensures.most

pub returns-clause-value : goal.returns-clause-value
returns-clause-value c =
    let before = c.args.before in
    let at = c.args.at in
    let after = c.args.after in
    let a = difference_is before.x at.x c.between.result c.requires.before.x c.requires.at.x c.between.ensures.value in
    let b = difference_is before.y after.y c.between-2.result c.requires.before.y c.requires.after.y c.between-2.ensures.value in
    let d = difference_is before.y at.y c.between-3.result c.requires.before.y c.requires.at.y c.between-3.ensures.value in
    let e = difference_is before.x after.x c.between-4.result c.requires.before.x c.requires.after.x c.between-4.ensures.value in
    let p = product_is c.product-across.result _ _ _ _ c.between.ensures.most c.between-2.ensures.most a b c.product-across.ensures.value in
    let q = product_is c.product-along.result _ _ _ _ c.between-3.ensures.most c.between-4.ensures.most d e c.product-along.ensures.value in
    size_is c.product-across.result c.product-along.result _ _ c.unsigned_abs.result
    c.product-across.ensures.most c.product-along.ensures.most p q c.unsigned_abs.ensures.value

pub returns-clause-most : goal.returns-clause-most
returns-clause-most c =
    let p = c.product-across.ensures.most in
    let q = c.product-along.ensures.most in
    let P : ℕ → Type 0 = λ n. n ≤ 2 ^ 51 in
    subst P (sym (size_is c.product-across.result c.product-along.result _ _ c.unsigned_abs.result p q refl refl c.unsigned_abs.ensures.value))
    (size_most c.product-across.result c.product-along.result p q)

-- the numbers are passed as they are
pub between-requires-clause-from : goal.between-requires-clause-from
between-requires-clause-from c = reach_passed c.args.before.x c.requires.before.x

pub between-requires-clause-to : goal.between-requires-clause-to
between-requires-clause-to c = reach_passed c.args.at.x c.requires.at.x

pub between-requires-2-clause-from : goal.between-requires-2-clause-from
between-requires-2-clause-from c = reach_passed c.args.before.y c.requires.before.y

pub between-requires-2-clause-to : goal.between-requires-2-clause-to
between-requires-2-clause-to c = reach_passed c.args.after.y c.requires.after.y

pub between-requires-3-clause-from : goal.between-requires-3-clause-from
between-requires-3-clause-from c = reach_passed c.args.before.y c.requires.before.y

pub between-requires-3-clause-to : goal.between-requires-3-clause-to
between-requires-3-clause-to c = reach_passed c.args.at.y c.requires.at.y

pub between-requires-4-clause-from : goal.between-requires-4-clause-from
between-requires-4-clause-from c = reach_passed c.args.before.x c.requires.before.x

pub between-requires-4-clause-to : goal.between-requires-4-clause-to
between-requires-4-clause-to c = reach_passed c.args.after.x c.requires.after.x

pub product-across-requires-clause-a : goal.product-across-requires-clause-a
product-across-requires-clause-a c = difference_passed c.between.result c.between.ensures.most

pub product-across-requires-clause-b : goal.product-across-requires-clause-b
product-across-requires-clause-b c = difference_passed c.between-2.result c.between-2.ensures.most

pub product-along-requires-clause-a : goal.product-along-requires-clause-a
product-along-requires-clause-a c = difference_passed c.between-3.result c.between-3.ensures.most

pub product-along-requires-clause-b : goal.product-along-requires-clause-b
product-along-requires-clause-b c = difference_passed c.between-4.result c.between-4.ensures.most
