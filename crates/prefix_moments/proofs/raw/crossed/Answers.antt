use Rattle.std.proofs.Common.{◌*◌, ◌≤◌, ℤ, ◌-ℤ◌, ◌*ℤ◌, w64, to_z, of_z, ap, ◌∙◌, arith}
use Rattle.std.specs.Prelude.{unsigned_abs}
use Rattle.std.specs.Int.RustNames.{FitsSigned}
use Rattle.pt_core.specs.declared.limits.TheConstants.{LONGEST_SIDE}
use Rattle.prefix_moments.proofs.Fitting.{difference_back, difference_fits, side_back, side_passed, product_value}
use Rattle.prefix_moments.proofs.raw.crossed.Goals as goal

-- the numbers are passed as short as they are
pub offset_product-requires-clause-a : goal.offset_product-requires-clause-a
offset_product-requires-clause-a c = side_passed c.args.x c.requires.x

pub offset_product-requires-clause-b : goal.offset_product-requires-clause-b
offset_product-requires-clause-b c = side_passed c.args.above c.requires.above

pub offset_product-requires-2-clause-a : goal.offset_product-requires-2-clause-a
offset_product-requires-2-clause-a c = side_passed c.args.y c.requires.y

pub offset_product-requires-2-clause-b : goal.offset_product-requires-2-clause-b
offset_product-requires-2-clause-b c = side_passed c.args.right c.requires.right

products_differ : (a b : ℤ) → unsigned_abs a ≤ LONGEST_SIDE * LONGEST_SIDE → unsigned_abs b ≤ LONGEST_SIDE * LONGEST_SIDE
    → FitsSigned w64 (to_z w64 (of_z w64 a) -ℤ to_z w64 (of_z w64 b))
products_differ a b h k = difference_fits a b (omega arith) (omega arith)

pub overflow_sub-result : goal.overflow_sub-result
overflow_sub-result c = products_differ c.offset_product.result c.offset_product-2.result c.offset_product.ensures.most c.offset_product-2.ensures.most

pub returns : goal.returns
returns c =
    let first = product_value c.offset_product.result c.args.x c.args.above c.args.x c.args.above (side_back c.args.x c.requires.x) (side_back c.args.above c.requires.above) c.offset_product.ensures.value in
    let second = product_value c.offset_product-2.result c.args.y c.args.right c.args.y c.args.right (side_back c.args.y c.requires.y) (side_back c.args.right c.requires.right) c.offset_product-2.ensures.value in
    difference_back c.offset_product.result c.offset_product-2.result (c.args.y *ℤ c.args.right)
    (omega (arith, c.offset_product.ensures.most)) (omega (arith, c.offset_product-2.ensures.most)) second
    ∙ ap (λ n. n -ℤ c.args.y *ℤ c.args.right) first
