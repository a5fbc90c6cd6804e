use Rattle.std.proofs.Common.{◌≡◌, ◌^◌, ◌≤◌, ℤ, pos, ◌*ℤ◌, to_z, of_z, arith}
use Rattle.std.proofs.lemmas.Int.{to_z-of_z, fits_signed_from_abs}
use Rattle.std.specs.Prelude.{unsigned_abs}
use Rattle.std.specs.Int.RustNames.{FitsSigned}
use mir.Syntax.{w128}
use Rattle.pt_core.proofs.Sizes.{long_back, product_most}
use Rattle.prefix_moments.proofs.Fitting.{spread_most, spread_fits, spread_fits_at_first, side_back, side_passed, square_back, square_passed, product_value, spread_value}
use Rattle.prefix_moments.proofs.raw.spread.Goals as goal

-- the numbers are passed as short as they are
pub offset_product-requires-clause-a : goal.offset_product-requires-clause-a
offset_product-requires-clause-a c = side_passed c.args.above c.requires.above

pub offset_product-requires-clause-b : goal.offset_product-requires-clause-b
offset_product-requires-clause-b c = side_passed c.args.above c.requires.above

pub offset_product-requires-2-clause-a : goal.offset_product-requires-2-clause-a
offset_product-requires-2-clause-a c = side_passed c.args.right c.requires.right

pub offset_product-requires-2-clause-b : goal.offset_product-requires-2-clause-b
offset_product-requires-2-clause-b c = side_passed c.args.above c.requires.above

pub offset_product-requires-3-clause-a : goal.offset_product-requires-3-clause-a
offset_product-requires-3-clause-a c = side_passed c.args.right c.requires.right

pub offset_product-requires-3-clause-b : goal.offset_product-requires-3-clause-b
offset_product-requires-3-clause-b c = side_passed c.args.right c.requires.right

pub wide-requires : goal.wide-requires
wide-requires c = square_passed c.offset_product.result c.offset_product.ensures.most

pub wide-requires-2 : goal.wide-requires-2
wide-requires-2 c = square_passed c.offset_product-2.result c.offset_product-2.ensures.most

pub wide-requires-3 : goal.wide-requires-3
wide-requires-3 c = square_passed c.offset_product-3.result c.offset_product-3.ensures.most

twice_fits : (b : ℤ) → unsigned_abs b ≤ 2 ^ 107 → FitsSigned w128 (pos 2 *ℤ to_z w128 (of_z w128 b))
twice_fits b h =
    rw (long_back b (omega arith)) (fits_signed_from_abs w128 (pos 2 *ℤ b) (let most = product_most (pos 2) b 2 (2 ^ 107) (omega arith) h in omega arith))

pub overflow_mul-result : goal.overflow_mul-result
overflow_mul-result c = twice_fits c.wide-2.result c.wide-2.ensures.most

pub overflow_sub-result : goal.overflow_sub-result
overflow_sub-result c = spread_fits_at_first c.wide.result c.wide-2.result c.wide.ensures.most c.wide-2.ensures.most

pub overflow_add-result : goal.overflow_add-result
overflow_add-result c = spread_fits c.wide.result c.wide-2.result c.wide-3.result c.wide.ensures.most c.wide-2.ensures.most c.wide-3.ensures.most

pub returns-clause-value : goal.returns-clause-value
returns-clause-value c =
    let r = side_back c.args.right c.requires.right in
    let u = side_back c.args.above c.requires.above in
    let a : c.offset_product.result ≡ c.args.above *ℤ c.args.above = product_value _ c.args.above c.args.above _ _ u u c.offset_product.ensures.value in
    let b : c.offset_product-2.result ≡ c.args.right *ℤ c.args.above = product_value _ c.args.right c.args.above _ _ r u c.offset_product-2.ensures.value in
    let d : c.offset_product-3.result ≡ c.args.right *ℤ c.args.right = product_value _ c.args.right c.args.right _ _ r r c.offset_product-3.ensures.value in
    spread_value c.wide.result c.wide-2.result c.wide-3.result c.offset_product.result c.offset_product-2.result c.offset_product-3.result _ _ _ c.args.xx c.args.xy c.args.yy
    c.wide.ensures.most c.wide-2.ensures.most c.wide-3.ensures.most
    (product_value c.wide.result c.offset_product.result c.args.xx _ _ (square_back _ c.offset_product.ensures.most) (to_z-of_z _ c.args.xx c.ranges.xx) c.wide.ensures.value)
    (product_value c.wide-2.result c.offset_product-2.result c.args.xy _ _ (square_back _ c.offset_product-2.ensures.most) (to_z-of_z _ c.args.xy c.ranges.xy) c.wide-2.ensures.value)
    (product_value c.wide-3.result c.offset_product-3.result c.args.yy _ _ (square_back _ c.offset_product-3.ensures.most) (to_z-of_z _ c.args.yy c.ranges.yy) c.wide-3.ensures.value)
    a b d

pub returns-clause-most : goal.returns-clause-most
returns-clause-most c =
    spread_most c.wide.result c.wide-2.result c.wide-3.result c.wide.ensures.most c.wide-2.ensures.most c.wide-3.ensures.most
