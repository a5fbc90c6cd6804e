use Rattle.std.proofs.Common.{pos, w64, refl, rules, ap, ◌∙◌, arith}
use Rattle.std.proofs.lemmas.Int.{to_z-of_z, fits_signed_from_abs}
use Rattle.std.specs.Int.{int_wrap}
use Rattle.prefix_moments.proofs.Wrapping.{whole, sum, difference, product}
use Rattle.prefix_moments.proofs.growing.wrapped_spread.Goals as goal

pub returns : goal.returns
returns c =
    let right = to_z-of_z w64 c.args.right c.ranges.right in
    let above = to_z-of_z w64 c.args.above c.ranges.above in
    let xx = whole c.args.xx c.ranges.xx in
    let xy = whole c.args.xy c.ranges.xy in
    let yy = whole c.args.yy c.ranges.yy in
    let mixed = whole c.offset_product.result (fits_signed_from_abs w64 c.offset_product.result (omega (arith, c.offset_product.ensures.most))) in
    let first = whole c.offset_product-2.result (fits_signed_from_abs w64 c.offset_product-2.result (omega (arith, c.offset_product-2.ensures.most))) in
    let last = whole c.offset_product-3.result (fits_signed_from_abs w64 c.offset_product-3.result (omega (arith, c.offset_product-3.ensures.most))) in
    let two = whole (pos 2) (search rules) in
    let squares = difference _ _ _ _ (product _ _ _ _ first xx) (product _ _ _ _ two (product _ _ _ _ mixed xy)) in
    let all = sum _ _ _ _ squares (product _ _ _ _ last yy) in
    all.wrapped
    ∙ ap (int_wrap w64) (rw (c.offset_product-2.ensures.value, c.offset_product.ensures.value, c.offset_product-3.ensures.value, right, above) refl)
