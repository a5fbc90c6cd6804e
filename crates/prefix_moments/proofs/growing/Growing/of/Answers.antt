use Rattle.std.proofs.Common.{w64, ap, ◌∙◌, arith, rules}
use Rattle.std.proofs.lemmas.Int.{to_z-of_z}
use Rattle.std.specs.Int.RustNames.{FitsSigned}
use Rattle.prefix_moments.specs.declared.sums.Sums.{Sums}
use Rattle.pt_core.proofs.Sizes.{back}
use Rattle.prefix_moments.proofs.Totals.{right_is, above_is}
use Rattle.prefix_moments.proofs.growing.Growing.of.Goals as goal

pub invariant_of-result : goal.invariant_of-result
invariant_of-result c =
    let segment = c.args.segment in
    let points = segment.moments.now in
    let i = segment.from in
    let j = segment.to in
    let s = segment.sums in
    let xx : FitsSigned w64 s.xx = search rules in
    let xy : FitsSigned w64 s.xy = search rules in
    let yy : FitsSigned w64 s.yy = search rules in
    record {
      point = segment.point;
      onwards = segment.onwards;
      steps = segment.steps;
      lap = segment.lap;
      on_page = segment.on_page;
      first_on_page = segment.first_on_page;
      first_is = segment.first_is;
      count_is = omega (arith, c.from.ensures, segment.onwards);
      right_is = back c.between.result (omega (arith, c.between.ensures.most))
          ∙ right_is points i j segment.first segment.last c.between.result segment.first_on_page segment.last_on_page segment.first_is segment.last_is c.between.ensures.value;
      above_is = back c.between-2.result (omega (arith, c.between-2.ensures.most))
          ∙ above_is points i j segment.first segment.last c.between-2.result segment.first_on_page segment.last_on_page segment.first_is segment.last_is c.between-2.ensures.value;
      xx_is = to_z-of_z w64 s.xx xx ∙ ap (λ (s : Sums). s.xx) segment.sums_are;
      xy_is = to_z-of_z w64 s.xy xy ∙ ap (λ (s : Sums). s.xy) segment.sums_are;
      yy_is = to_z-of_z w64 s.yy yy ∙ ap (λ (s : Sums). s.yy) segment.sums_are;
    }
