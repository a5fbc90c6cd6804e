use Rattle.std.proofs.Common.{refl}
use Rattle.prefix_moments.proofs.Fitting.{moved_value, moved_products_value, side_passed, sum_passed, products_passed, offsets_passed}
use Rattle.prefix_moments.proofs.Rows.{sums_same}
use Rattle.prefix_moments.proofs.moments.offsets.Goals as goal

-- the numbers are passed as short as they are
pub moved-x-requires-clause-sum : goal.moved-x-requires-clause-sum
moved-x-requires-clause-sum c = sum_passed c.args.raw.x c.requires.raw.x

pub moved-x-requires-clause-from : goal.moved-x-requires-clause-from
moved-x-requires-clause-from c = side_passed c.args.x0 c.requires.x0

pub moved-y-requires-clause-sum : goal.moved-y-requires-clause-sum
moved-y-requires-clause-sum c = sum_passed c.args.raw.y c.requires.raw.y

pub moved-y-requires-clause-from : goal.moved-y-requires-clause-from
moved-y-requires-clause-from c = side_passed c.args.y0 c.requires.y0

pub moved_products-requires-clause-products : goal.moved_products-requires-clause-products
moved_products-requires-clause-products c = products_passed c.args.raw.xx c.requires.raw.xx

pub moved_products-requires-clause-a : goal.moved_products-requires-clause-a
moved_products-requires-clause-a c = side_passed c.args.x0 c.requires.x0

pub moved_products-requires-clause-others : goal.moved_products-requires-clause-others
moved_products-requires-clause-others c = sum_passed c.args.raw.x c.requires.raw.x

pub moved_products-requires-clause-b : goal.moved_products-requires-clause-b
moved_products-requires-clause-b c = side_passed c.args.x0 c.requires.x0

pub moved_products-requires-clause-offsets : goal.moved_products-requires-clause-offsets
moved_products-requires-clause-offsets c = offsets_passed c.moved-x.result c.moved-x.ensures.most

pub moved_products-requires-2-clause-products : goal.moved_products-requires-2-clause-products
moved_products-requires-2-clause-products c = products_passed c.args.raw.xy c.requires.raw.xy

pub moved_products-requires-2-clause-a : goal.moved_products-requires-2-clause-a
moved_products-requires-2-clause-a c = side_passed c.args.x0 c.requires.x0

pub moved_products-requires-2-clause-others : goal.moved_products-requires-2-clause-others
moved_products-requires-2-clause-others c = sum_passed c.args.raw.y c.requires.raw.y

pub moved_products-requires-2-clause-b : goal.moved_products-requires-2-clause-b
moved_products-requires-2-clause-b c = side_passed c.args.y0 c.requires.y0

pub moved_products-requires-2-clause-offsets : goal.moved_products-requires-2-clause-offsets
moved_products-requires-2-clause-offsets c = offsets_passed c.moved-x.result c.moved-x.ensures.most

pub moved_products-requires-3-clause-products : goal.moved_products-requires-3-clause-products
moved_products-requires-3-clause-products c = products_passed c.args.raw.yy c.requires.raw.yy

pub moved_products-requires-3-clause-a : goal.moved_products-requires-3-clause-a
moved_products-requires-3-clause-a c = side_passed c.args.y0 c.requires.y0

pub moved_products-requires-3-clause-others : goal.moved_products-requires-3-clause-others
moved_products-requires-3-clause-others c = sum_passed c.args.raw.y c.requires.raw.y

pub moved_products-requires-3-clause-b : goal.moved_products-requires-3-clause-b
moved_products-requires-3-clause-b c = side_passed c.args.y0 c.requires.y0

pub moved_products-requires-3-clause-offsets : goal.moved_products-requires-3-clause-offsets
moved_products-requires-3-clause-offsets c = offsets_passed c.moved-y.result c.moved-y.ensures.most

pub returns : goal.returns
returns c =
    let r = c.args.raw in
    let s = c.requires.raw in
    let x = c.args.x0 in
    let y = c.args.y0 in
    let right = moved_value c.moved-x.result r.x x c.args.count c.moved-x.ensures.most s.x c.requires.x0 c.moved-x.ensures.value in
    let above = moved_value c.moved-y.result r.y y c.args.count c.moved-y.ensures.most s.y c.requires.y0 c.moved-y.ensures.value in
    sums_same _ _ refl right above
    (moved_products_value c.moved_products.result r.xx x r.x x c.moved-x.result _ s.xx c.requires.x0 s.x c.requires.x0
    c.moved-x.ensures.most right c.moved_products.ensures)
    (moved_products_value c.moved_products-2.result r.xy x r.y y c.moved-x.result _ s.xy c.requires.x0 s.y c.requires.y0
    c.moved-x.ensures.most right c.moved_products-2.ensures)
    (moved_products_value c.moved_products-3.result r.yy y r.y y c.moved-y.result _ s.yy c.requires.y0 s.y c.requires.y0
    c.moved-y.ensures.most above c.moved_products-3.ensures)
