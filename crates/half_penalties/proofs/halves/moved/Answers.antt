use Rattle.half_penalties.proofs.Fitting.{first_passed, moved_products_is, moved_sum_is, moved_sum_most, moved_sum_passed}
use Rattle.half_penalties.proofs.Sums.{products_same}
use Rattle.half_penalties.proofs.halves.moved.Goals as goal

-- the numbers are passed as short as they are
pub less_product-requires-2-clause-sum : goal.less_product-requires-2-clause-sum
less_product-requires-2-clause-sum c =
    first_passed c.less_product.result c.args.sums.xx c.args.right c.args.sums.x c.requires.small.xx c.requires.right c.requires.small.x c.less_product.ensures.value

pub less_product-requires-2-clause-b : goal.less_product-requires-2-clause-b
less_product-requires-2-clause-b c =
    moved_sum_passed c.less_product-x.result c.args.sums.x c.from.result c.args.right c.args.sums.count c.from.ensures c.requires.few c.requires.small.x c.requires.right c.less_product-x.ensures.value

pub less_product-requires-4-clause-sum : goal.less_product-requires-4-clause-sum
less_product-requires-4-clause-sum c =
    first_passed c.less_product-3.result c.args.sums.xy c.args.right c.args.sums.y c.requires.small.xy c.requires.right c.requires.small.y c.less_product-3.ensures.value

pub less_product-requires-4-clause-b : goal.less_product-requires-4-clause-b
less_product-requires-4-clause-b c =
    moved_sum_passed c.less_product-x.result c.args.sums.x c.from.result c.args.right c.args.sums.count c.from.ensures c.requires.few c.requires.small.x c.requires.right c.less_product-x.ensures.value

pub less_product-requires-6-clause-sum : goal.less_product-requires-6-clause-sum
less_product-requires-6-clause-sum c =
    first_passed c.less_product-5.result c.args.sums.yy c.args.above c.args.sums.y c.requires.small.yy c.requires.above c.requires.small.y c.less_product-5.ensures.value

pub less_product-requires-6-clause-b : goal.less_product-requires-6-clause-b
less_product-requires-6-clause-b c =
    moved_sum_passed c.less_product-y.result c.args.sums.y c.from-2.result c.args.above c.args.sums.count c.from-2.ensures c.requires.few c.requires.small.y c.requires.above c.less_product-y.ensures.value

pub returns : goal.returns
returns c =
    let x = c.less_product-x.result in
    let y = c.less_product-y.result in
    let x_is = moved_sum_is c.less_product-x.result c.args.sums.x c.from.result c.args.right c.args.sums.count c.from.ensures c.requires.few c.requires.small.x c.requires.right c.less_product-x.ensures.value in
    let y_is = moved_sum_is c.less_product-y.result c.args.sums.y c.from-2.result c.args.above c.args.sums.count c.from-2.ensures c.requires.few c.requires.small.y c.requires.above c.less_product-y.ensures.value in
    let x_most = moved_sum_most c.less_product-x.result c.args.sums.x c.from.result c.args.right c.args.sums.count c.from.ensures c.requires.few c.requires.small.x c.requires.right c.less_product-x.ensures.value in
    let y_most = moved_sum_most c.less_product-y.result c.args.sums.y c.from-2.result c.args.above c.args.sums.count c.from-2.ensures c.requires.few c.requires.small.y c.requires.above c.less_product-y.ensures.value in
    products_same _ _
    (moved_products_is c.less_product.result c.args.sums.xx c.args.right c.args.sums.x c.requires.small.xx c.requires.right c.requires.small.x c.less_product.ensures.value c.less_product-2.result c.args.right x _ c.requires.right x_most x_is c.less_product-2.ensures.value)
    (moved_products_is c.less_product-3.result c.args.sums.xy c.args.right c.args.sums.y c.requires.small.xy c.requires.right c.requires.small.y c.less_product-3.ensures.value c.less_product-4.result c.args.above x _ c.requires.above x_most x_is c.less_product-4.ensures.value)
    (moved_products_is c.less_product-5.result c.args.sums.yy c.args.above c.args.sums.y c.requires.small.yy c.requires.above c.requires.small.y c.less_product-5.ensures.value c.less_product-6.result c.args.above y _ c.requires.above y_most y_is c.less_product-6.ensures.value)
