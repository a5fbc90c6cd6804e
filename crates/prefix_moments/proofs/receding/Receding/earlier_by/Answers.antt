use Rattle.std.proofs.Common.{ℕ, ◌+◌, ◌-◌, sym, ap, subst, ◌∙◌, arith}
use Rattle.pt_core.specs.declared.limits.TheConstants.{MOST_STEPS}
use Rattle.pt_core.proofs.Sizes.{back}
use Rattle.prefix_moments.specs.declared.sums.Sums.{Sums}
use Rattle.prefix_moments.specs.Inner.Table.{IsRawOf, without_count}
use Rattle.prefix_moments.proofs.Earlier.{earlier_is, offsets_most}
use Rattle.prefix_moments.proofs.Totals.{right_is, above_is}
use Rattle.prefix_moments.proofs.receding.Receding.earlier_by.Goals as goal

pub with_first-requires-clause-count : goal.with_first-requires-clause-count
with_first-requires-clause-count c = sym (ap (λ (s : Sums). s.count) c.args.self.sums_are)

pub with_first-requires-clause-small : goal.with_first-requires-clause-small
with_first-requires-clause-small c =
    let s = c.args.self in
    let P : Sums → Type 0 = λ sums. IsRawOf (MOST_STEPS + 1) (without_count sums) in
    subst P (sym s.sums_are) (offsets_most s.moments.now s.on_page s.from s.to s.steps)

pub invariant_of-result : goal.invariant_of-result
invariant_of-result c =
    let s = c.args.self in
    let points = s.moments.now in
    let i : ℕ = s.from - 1 in
    let right = back c.between-right.result (omega (arith, c.between-right.ensures.most))
    ∙ right_is points s.from i s.first c.args.first c.between-right.result s.first_on_page c.requires.on_page s.first_is c.requires.first c.between-right.ensures.value in
    let above = back c.between-above.result (omega (arith, c.between-above.ensures.most))
    ∙ above_is points s.from i s.first c.args.first c.between-above.result s.first_on_page c.requires.on_page s.first_is c.requires.first c.between-above.ensures.value in
    record {
      point = omega (arith, s.point);
      onwards = omega (arith, s.onwards);
      steps = omega (arith, c.requires.some, c.requires.steps);
      lap = omega (arith, c.requires.some, c.requires.lap);
      on_page = s.on_page;
      first_on_page = c.requires.on_page;
      last_on_page = s.last_on_page;
      first_is = c.requires.first;
      last_is = s.last_is;
      sums_are = c.with_first.ensures ∙ rw (right, above, s.sums_are) (earlier_is points i s.from s.to (omega (arith, c.requires.some)) s.onwards);
    }
