use Rattle.std.proofs.Common.{◌≡◌, false, ◌≤◌, ℤ, pos, neg_ℤ, ◌+ℤ◌, ◌-ℤ◌, ◌≤ℤ◌, ◌<ℤ◌, unsigned_abs, FitsSigned, w64, to_z, of_z, ◌∙◌, subst, arith}
use Rattle.std.proofs.lemmas.Int.{ints, to_z-of_z}
use Rattle.std.specs.Int.Signed.{lt_z}
use Rattle.pt_core.proofs.Sizes.{back, product_most}
use Rattle.path_cones.specs.Inner.Cones.{IsShort}
use Rattle.path_cones.specs.Cones.{cross_of}
use Rattle.path_cones.specs.Inner.Strips.{IsFromTo, IsSpan}
use Rattle.path_cones.specs.declared.vector.Vector.{Vector}
use Rattle.path_cones.specs.declared.strip.Span.{Span}
use Rattle.path_cones.proofs.Bounds.{difference_fits}
use Rattle.path_cones.proofs.Stepping.{across_small, breadth_most}
use Rattle.path_cones.proofs.strip.Strip.across_before.Goals as goal

cross_most : (way step : Vector) (z : ℤ) → IsShort 65535 way → IsShort 1 step → z ≡ cross_of way step → unsigned_abs z ≤ 131070
cross_most way step z short unit is =
    let p = product_most way.x step.y 65535 1 short.x unit.y in
    let q = product_most way.y step.x 65535 1 short.y unit.x in
    omega (arith, ints)

pub shifted-across-requires-clause-small : goal.shifted-across-requires-clause-small
shifted-across-requires-clause-small c =
    across_small c.args.self c.requires.strip

cross_passed : (z : ℤ) → unsigned_abs z ≤ 131070 → unsigned_abs (to_z w64 (of_z w64 z)) ≤ 131072
cross_passed z h = rw (back z (omega arith)) (omega arith)

pub shifted-across-requires-clause-by : goal.shifted-across-requires-clause-by
shifted-across-requires-clause-by c =
    cross_passed c.args.by (cross_most c.args.self.way c.args.step c.args.by c.requires.strip.short c.requires.step c.requires.by)

span_fits : (span : Span) → IsSpan (neg_ℤ (pos 262144)) (pos 262144) span
    → FitsSigned w64 (to_z w64 (of_z w64 span.greatest) -ℤ to_z w64 (of_z w64 span.least))
span_fits span small =
    let a = small.least.least in
    let b = small.least.most in
    let d = small.greatest.least in
    let e = small.greatest.most in
    difference_fits span.greatest span.least (omega (arith, ints)) (omega (arith, ints))

pub overflow_sub-across : goal.overflow_sub-across
overflow_sub-across c = span_fits c.shifted-across.result c.shifted-across.ensures.small

-- what the tests tell, in whole numbers
narrow_tested : (l g breadth : ℤ) → IsFromTo (neg_ℤ (pos 262144)) (pos 0) l → IsFromTo (pos 0) (pos 262144) g → pos 0 <ℤ breadth → breadth ≤ℤ pos 131070
    → lt_z (to_z w64 (of_z w64 breadth)) (to_z w64 (of_z w64 (to_z w64 (of_z w64 g) -ℤ to_z w64 (of_z w64 l)))) ≡ false
    → (g -ℤ l) ≤ℤ breadth
narrow_tested l g breadth in_l in_g some most tested =
    let a = in_l.least in
    let b = in_l.most in
    let d = in_g.least in
    let e = in_g.most in
    omega (arith, ints)

pub returns : goal.returns
returns c =
    let strip = c.requires.strip in
    let some = strip.some in
    let small = c.shifted-across.ensures.small in
    let by : to_z w64 (of_z w64 c.args.by) ≡ cross_of c.args.self.way c.args.step = to_z-of_z w64 c.args.by c.ranges.by ∙ c.requires.by in
    record {
      low = small.least.most;
      high = small.greatest.least;
      least = subst (λ (z : ℤ). c.shifted-across.result.least ≤ℤ (c.args.self.across.least +ℤ z)) by c.shifted-across.ensures.least;
      greatest = subst (λ (z : ℤ). (c.args.self.across.greatest +ℤ z) ≤ℤ c.shifted-across.result.greatest) by c.shifted-across.ensures.greatest;
      narrow = narrow_tested c.shifted-across.result.least c.shifted-across.result.greatest c.args.self.breadth small.least small.greatest some
          (breadth_most c.args.self strip) c.if-self-across.false;
    }
