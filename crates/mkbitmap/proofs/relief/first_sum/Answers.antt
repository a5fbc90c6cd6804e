use Rattle.std.proofs.Common.{◌+◌, ◌-◌, ◌*◌, ◌≤◌, get_or, arith, sym, ◌∙◌, ap}
use Rattle.std.proofs.lemmas.Nat.{mul-le}
use Rattle.mkbitmap.specs.Box.{sum_between}
use Rattle.mkbitmap.specs.declared.limits.TheConstants.{GREATEST_RADIUS, GREATEST_SUM}
use Rattle.mkbitmap.proofs.BoxSums.{sum-most, sum-grown}
use Rattle.mkbitmap.proofs.relief.first_sum.Goals as goal

pub with_column-sum-requires : goal.with_column-sum-requires
with_column-sum-requires c =
    let most : sum_between (λ a. get_or c.args.columns.now a 0) 0 c.loop-x.x ≤ (c.loop-x.x - 0) * GREATEST_SUM
    = sum-most (λ a. get_or c.args.columns.now a 0) GREATEST_SUM 0 c.loop-x.x c.requires.columns in
    let wide : (c.loop-x.x - 0) * GREATEST_SUM ≤ GREATEST_RADIUS * GREATEST_SUM = mul-le (c.loop-x.x - 0) GREATEST_SUM GREATEST_RADIUS GREATEST_SUM (omega arith) (omega arith) in
    omega (arith, c.loop-x.invariant.sum, most, wide, c.requires.columns c.loop-x.x)

pub loop-x-preserved : goal.loop-x-preserved
loop-x-preserved c = record {
  sum = c.with_column-sum.ensures ∙ ap (λ k. k + get_or c.args.columns.now c.loop-x.x 0) c.loop-x.invariant.sum
      ∙ sym (sum-grown (λ a. get_or c.args.columns.now a 0) 0 c.loop-x.x (omega arith)) ∙ ap (λ k. sum_between (λ a. get_or c.args.columns.now a 0) 0 k) (omega arith);
}
