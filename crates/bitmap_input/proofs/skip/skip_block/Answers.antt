use Rattle.std.proofs.Common.{arith, rules}
use Rattle.std.proofs.lemmas.Result.{err_from_is_err_and}
use Rattle.bitmap_input.proofs.SkippedBytes.{block_passed, block_missing, block_failed}
use Rattle.bitmap_input.proofs.StepEffects.{leaving}
use Rattle.bitmap_input.proofs.skip.skip_block.Goals as goal

pub returns-then-missing-eq0 : goal.returns-then-missing-eq0
returns-then-missing-eq0 g c = record {
  reads = leaving (search rules)
      (block_passed c.args.n c.if-missing-eq0.true c.in_ok-missing.ensures.reads.step);
}

pub returns-else-missing-eq0 : goal.returns-else-missing-eq0
returns-else-missing-eq0 g c = record {
  reads = leaving (search rules)
      (block_missing c.args.n (omega arith) c.in_ok-missing.ensures.reads.step);
}

pub returns-in_err-missing : goal.returns-in_err-missing
returns-in_err-missing g c = record {
  reads = leaving (search rules)
      (let p = err_from_is_err_and c.from_residual.result c.from_residual.ensures.1 in
      rw (p.1, p.2) (block_failed c.args.n _ c.in_err-missing.ensures.reads.step));
}
