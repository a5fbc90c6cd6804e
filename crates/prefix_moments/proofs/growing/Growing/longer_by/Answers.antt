use Rattle.std.proofs.Common.{ℕ, ◌+◌, ◌-◌, ◌≤◌, ap, ◌∙◌, arith}
use Rattle.std.proofs.lemmas.Int.{ints}
use Rattle.std.specs.Prelude.{unsigned_abs}
use Rattle.pt_core.specs.declared.limits.TheConstants.{MOST_STEPS}
use Rattle.prefix_moments.specs.Sums.{rightward_of, above_of}
use Rattle.prefix_moments.proofs.Longer.{sum_back, xx_most, xy_most, yy_most, grown_is}
use Rattle.pt_core.proofs.Sizes.{back}
use Rattle.prefix_moments.proofs.Totals.{right_is, above_is}
use Rattle.prefix_moments.proofs.growing.Growing.longer_by.Goals as goal

pub overflow_add-result : goal.overflow_add-result
overflow_add-result c = record { fits = c.requires.number }

pub between-right-requires-clause-from_low : goal.between-right-requires-clause-from_low
between-right-requires-clause-from_low c = let p = c.args.self.first_on_page in omega (arith, ints)

pub between-right-requires-clause-from_high : goal.between-right-requires-clause-from_high
between-right-requires-clause-from_high c = let p = c.args.self.first_on_page in omega (arith, ints)

pub between-above-requires-clause-from_low : goal.between-above-requires-clause-from_low
between-above-requires-clause-from_low c = let p = c.args.self.first_on_page in omega (arith, ints)

pub between-above-requires-clause-from_high : goal.between-above-requires-clause-from_high
between-above-requires-clause-from_high c = let p = c.args.self.first_on_page in omega (arith, ints)

pub sum_with-requires-clause-sum : goal.sum_with-requires-clause-sum
sum_with-requires-clause-sum c =
    let s = c.args.self in
    let most = xx_most s.moments.now s.on_page s.from s.to s.steps in
    omega (arith, ap unsigned_abs (sum_back s.xx _ s.xx_is most), most)

pub sum_with-requires-2-clause-sum : goal.sum_with-requires-2-clause-sum
sum_with-requires-2-clause-sum c =
    let s = c.args.self in
    let most = xy_most s.moments.now s.on_page s.from s.to s.steps in
    omega (arith, ap unsigned_abs (sum_back s.xy _ s.xy_is most), most)

pub sum_with-requires-3-clause-sum : goal.sum_with-requires-3-clause-sum
sum_with-requires-3-clause-sum c =
    let s = c.args.self in
    let most = yy_most s.moments.now s.on_page s.from s.to s.steps in
    omega (arith, ap unsigned_abs (sum_back s.yy _ s.yy_is most), most)

pub invariant_of-result : goal.invariant_of-result
invariant_of-result c =
    let s = c.args.self in
    let points = s.moments.now in
    let i = s.from in
    let j : ℕ = s.to in
    let on = s.onwards in
    let short : j + 1 - i ≤ MOST_STEPS = omega (arith, c.requires.steps) in
    let right = back c.between-right.result (omega (arith, c.between-right.ensures.most))
    ∙ right_is points i (j + 1) s.first c.args.last c.between-right.result s.first_on_page c.requires.on_page s.first_is c.requires.last c.between-right.ensures.value in
    let above = back c.between-above.result (omega (arith, c.between-above.ensures.most))
    ∙ above_is points i (j + 1) s.first c.args.last c.between-above.result s.first_on_page c.requires.on_page s.first_is c.requires.last c.between-above.ensures.value in
    let xx = grown_is (rightward_of points i) (rightward_of points i) i j s.xx _ _ c.offset_product.result on
    (sum_back s.xx _ s.xx_is (xx_most points s.on_page i j s.steps)) right right c.offset_product.ensures.value c.offset_product.ensures.most in
    let xy = grown_is (rightward_of points i) (above_of points i) i j s.xy _ _ c.offset_product-2.result on
    (sum_back s.xy _ s.xy_is (xy_most points s.on_page i j s.steps)) right above c.offset_product-2.ensures.value c.offset_product-2.ensures.most in
    let yy = grown_is (above_of points i) (above_of points i) i j s.yy _ _ c.offset_product-3.result on
    (sum_back s.yy _ s.yy_is (yy_most points s.on_page i j s.steps)) above above c.offset_product-3.ensures.value c.offset_product-3.ensures.most in
    record {
      point = s.point;
      onwards = omega (arith, on);
      steps = short;
      lap = omega (arith, c.requires.lap);
      on_page = s.on_page;
      first_on_page = s.first_on_page;
      first_is = s.first_is;
      count_is = omega (arith, s.count_is, on);
      right_is = right;
      above_is = above;
      xx_is = sum_back c.sum_with.result _ (c.sum_with.ensures ∙ xx) (xx_most points s.on_page i (j + 1) short);
      xy_is = sum_back c.sum_with-2.result _ (c.sum_with-2.ensures ∙ xy) (xy_most points s.on_page i (j + 1) short);
      yy_is = sum_back c.sum_with-3.result _ (c.sum_with-3.ensures ∙ yy) (yy_most points s.on_page i (j + 1) short);
    }
