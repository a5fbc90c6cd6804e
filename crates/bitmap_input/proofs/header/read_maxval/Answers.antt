use Rattle.std.proofs.Common.{rules}
use Rattle.std.proofs.lemmas.Result.{err_from_is_err_and}
use Rattle.bitmap_input.specs.Cut.Kind.{BadHeader}
use Rattle.bitmap_input.specs.Front.{checked_maxval}
use Rattle.bitmap_input.proofs.AddedBytes.{number_behind_gap_stays}
use Rattle.bitmap_input.proofs.ComposedSteps.{reads_on, reads_stop}
use Rattle.bitmap_input.proofs.Headers.{reads_checked_maxval}
use Rattle.bitmap_input.proofs.StepEffects.{leaving}
use Rattle.bitmap_input.proofs.header.read_maxval.Goals as goal

pub returns-in_err-maxval-clause-reads : goal.returns-in_err-maxval-clause-reads
returns-in_err-maxval-clause-reads g c =
    leaving (search rules)
    (let p = err_from_is_err_and c.from_residual.result c.from_residual.ensures.1 in
    rw (p.1, p.2) (reads_stop checked_maxval c.in_err-maxval.ensures.reads.step))

pub returns-clause-reads : goal.returns-clause-reads
returns-clause-reads g c =
    leaving (search rules)
    (reads_on (number_behind_gap_stays BadHeader) c.in_ok-maxval.ensures.reads.step
    (λ n is. reads_checked_maxval n is c.check_maxval.ensures.checks))
