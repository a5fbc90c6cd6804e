use Rattle.std.proofs.Common.{◌++◌, sym, rules}
use Rattle.std.proofs.lemmas.Result.{err_from_is_err_and}
use Rattle.bitmap_input.specs.Cut.{◌>>=◌}
use Rattle.bitmap_input.specs.Front.{magic}
use Rattle.bitmap_input.specs.Inner.Behind.{counted_body, counted_page}
use Rattle.bitmap_input.proofs.AddedBytes.{spaces_stay, magic_stays}
use Rattle.bitmap_input.proofs.SkippedBytes.{passed_over_stays}
use Rattle.bitmap_input.proofs.Behind.{page_ahead}
use Rattle.bitmap_input.proofs.ComposedSteps.{reads_on, reads_stop, reads_as}
use Rattle.bitmap_input.proofs.StepEffects.{leaving}
use Rattle.bitmap_input.proofs.reader.read_ahead.Goals as goal

pub returns-in_err-pass_over : goal.returns-in_err-pass_over
returns-in_err-pass_over g c = record {
  reads = leaving (search rules)
      (let p = err_from_is_err_and c.from_residual.result c.from_residual.ensures.1 in
      rw (p.1, p.2) (reads_as (λ more. sym (page_ahead c.args.behind c.args.later (c.args.buffer.now.bytes ++ more)))
      (reads_stop (λ _ rest. counted_page c.args.later rest) c.in_err-pass_over.ensures.reads.step)));
}

pub returns-in_err-skip : goal.returns-in_err-skip
returns-in_err-skip g c = record {
  reads = leaving (search rules)
      (let p = err_from_is_err_and c.from_residual-in_err-skip.result c.from_residual-in_err-skip.ensures.1 in
      rw (p.1, p.2) (reads_as (λ more. sym (page_ahead c.args.behind c.args.later (c.args.buffer.now.bytes ++ more)))
      (reads_on (passed_over_stays c.args.behind) c.in_ok-pass_over.ensures.reads.step
      (λ _ _. reads_stop (λ _ rest. magic c.args.later rest >>= λ m rest. counted_body m rest) c.in_err-skip.ensures.reads.step))));
}

pub returns-in_err-format : goal.returns-in_err-format
returns-in_err-format g c = record {
  reads = leaving (search rules)
      (let p = err_from_is_err_and c.from_residual-in_err-format.result c.from_residual-in_err-format.ensures.1 in
      rw (p.1, p.2) (reads_as (λ more. sym (page_ahead c.args.behind c.args.later (c.args.buffer.now.bytes ++ more)))
      (reads_on (passed_over_stays c.args.behind) c.in_ok-pass_over.ensures.reads.step
      (λ _ _. reads_on spaces_stay c.in_ok-skip.ensures.reads.step
      (λ _ _. reads_stop (λ m rest. counted_body m rest) c.in_err-format.ensures.reads.step)))));
}

pub returns : goal.returns
returns g c = record {
  reads = leaving (search rules)
      (reads_as (λ more. sym (page_ahead c.args.behind c.args.later (c.args.buffer.now.bytes ++ more)))
      (reads_on {next = λ _ rest. counted_page c.args.later rest} (passed_over_stays c.args.behind) c.in_ok-pass_over.ensures.reads.step
      (λ _ _. reads_on spaces_stay c.in_ok-skip.ensures.reads.step
      (λ _ _. reads_on {next = λ m rest. counted_body m rest} (magic_stays c.args.later) c.in_ok-format.ensures.reads.step
      (λ m is. rw is c.read_body.ensures.reads.step)))));
}
