use Rattle.std.proofs.Common.{arith, rules}
use Rattle.std.proofs.lemmas.Result.{err_from_is_err_and}
use Rattle.bitmap_input.proofs.Blocks.{block_as}
use Rattle.bitmap_input.proofs.ComposedSteps.{reads_failed}
use Rattle.bitmap_input.proofs.StepEffects.{leaving}
use Rattle.bitmap_input.proofs.bmp.head.Head.read.Goals as goal

pub returns-in_err-read_into-clause-reads : goal.returns-in_err-read_into-clause-reads
returns-in_err-read_into-clause-reads g c =
    leaving (search rules)
    (let p = err_from_is_err_and c.from_residual.result c.from_residual.ensures.1 in
    rw (p.1, p.2) (block_as (reads_failed c.in_err-read_into.ensures.reads.step) (omega arith)))

pub returns-clause-reads : goal.returns-clause-reads
returns-clause-reads g c =
    leaving (search rules)
    (rw (← c.self.view_is) (block_as c.in_ok-read_into.ensures.reads.step (omega arith)))
