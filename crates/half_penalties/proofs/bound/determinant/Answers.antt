use Rattle.std.proofs.Common.{◌≡◌, ◌≤◌, ◌^◌, ℤ, ◌-ℤ◌, ◌*ℤ◌, sym, ap, ◌∙◌, subst, unsigned_abs, arith}
use Rattle.half_penalties.proofs.Fitting.{long_difference_fits, long_difference_is, long_difference_most, product_value, sums_most}
use Rattle.half_penalties.proofs.bound.determinant.Goals as goal

first_is : (c : goal.After-product-2) → c.product.result ≡ c.args.products.xx *ℤ c.args.products.yy
first_is c = let s = c.requires in product_value c.product.result c.args.products.xx c.args.products.yy (omega (arith, s.xx)) (omega (arith, s.yy)) c.product.ensures

second_is : (c : goal.After-product-2) → c.product-2.result ≡ c.args.products.xy *ℤ c.args.products.xy
second_is c = let s = c.requires in product_value c.product-2.result c.args.products.xy c.args.products.xy (omega (arith, s.xy)) (omega (arith, s.xy)) c.product-2.ensures

first_most : (c : goal.After-product-2) → unsigned_abs c.product.result ≤ 2 ^ 92
first_most c = let s = c.requires in rw (first_is c) (sums_most c.args.products.xx c.args.products.yy (omega (arith, s.xx)) (omega (arith, s.yy)))

second_most : (c : goal.After-product-2) → unsigned_abs c.product-2.result ≤ 2 ^ 92
second_most c = let s = c.requires in rw (second_is c) (sums_most c.args.products.xy c.args.products.xy (omega (arith, s.xy)) (omega (arith, s.xy)))

pub overflow_sub-result : goal.overflow_sub-result
overflow_sub-result c = long_difference_fits c.product.result c.product-2.result (first_most c) (second_most c)

pub returns-clause-value : goal.returns-clause-value
returns-clause-value c =
    long_difference_is c.product.result c.product-2.result (first_most c) (second_most c)
    ∙ ap (λ z. z -ℤ c.product-2.result) (first_is c) ∙ ap (λ z. c.args.products.xx *ℤ c.args.products.yy -ℤ z) (second_is c)

pub returns-clause-most : goal.returns-clause-most
returns-clause-most c =
    let P : ℤ → Type 0 = λ z. unsigned_abs z ≤ 2 ^ 93 in
    subst P (sym (long_difference_is c.product.result c.product-2.result (first_most c) (second_most c)))
    (long_difference_most c.product.result c.product-2.result (first_most c) (second_most c))
