use Rattle.std.proofs.Common.{◌≡◌, ◌+◌, ◌-◌, ◌*◌, ◌∙◌, inl, inr, false, get_or, ap, sym, arith, rules}
use Rattle.std.specs.Prelude.{nat_le}
use Rattle.std.proofs.lemmas.Bool.{cases_lt}
use Rattle.bitmap_input.specs.Inner.Shading.{bytes_sum}
use Rattle.bitmap_input.proofs.dark.test_colors.Goals as goal

pub loop-j-preserved : goal.loop-j-preserved
loop-j-preserved c = record {
  room = search rules;
  tested = λ k h. elim (cases_lt k (8 * c.loop-j.j)) [
    | inl less ↦ c.test_eight.ensures.before k less ∙ c.loop-j.invariant.tested k less
    | inr more ↦
        let place : 8 * c.loop-j.j + (k - 8 * c.loop-j.j) ≡ k = omega arith in
        ap (λ n. get_or c.test_eight.new.dark n false) (sym place) ∙
        c.test_eight.ensures.dark (k - 8 * c.loop-j.j) (omega arith) ∙
        ap (λ v. nat_le v c.args.limit) (c.eight_sums-sums.ensures (k - 8 * c.loop-j.j) (omega arith)) ∙
        ap (λ n. nat_le (bytes_sum c.args.row.now (c.args.from + c.args.step * n)) c.args.limit) place
  ];
}
