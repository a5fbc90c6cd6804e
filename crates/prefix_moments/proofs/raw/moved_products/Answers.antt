use Rattle.std.proofs.Common.{arith}
use Rattle.std.proofs.lemmas.Int.{ints}
use Rattle.prefix_moments.proofs.Fitting.{differences_back, differences_fit, product_value}
use Rattle.prefix_moments.proofs.raw.moved_products.Goals as goal

pub overflow_sub-result-2 : goal.overflow_sub-result-2
overflow_sub-result-2 c =
    differences_fit c.args.products c.product.result c.product-2.result (omega arith) (omega arith) (omega arith)

pub returns : goal.returns
returns c =
    differences_back c.args.products c.product.result c.product-2.result _ _ (omega arith) (omega arith) (omega arith)
    (product_value c.product.result c.args.a c.args.others c.args.a c.args.others (omega (arith, ints)) (omega (arith, ints)) c.product.ensures.value)
    (product_value c.product-2.result c.args.b c.args.offsets c.args.b c.args.offsets (omega (arith, ints)) (omega (arith, ints)) c.product-2.ensures.value)
