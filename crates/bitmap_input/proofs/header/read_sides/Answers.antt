use Rattle.std.proofs.Common.{rules}
use Rattle.std.proofs.lemmas.Result.{err_from_is_err_and}
use Rattle.bitmap_input.specs.Cut.{◌>>=◌}
use Rattle.bitmap_input.specs.Front.{checked}
use Rattle.bitmap_input.specs.Cut.Kind.{BadHeader}
use Rattle.bitmap_input.specs.PageParts.{number_behind_gap}
use Rattle.bitmap_input.proofs.AddedBytes.{number_behind_gap_stays}
use Rattle.bitmap_input.proofs.ComposedSteps.{reads_on, reads_stop}
use Rattle.bitmap_input.proofs.Headers.{reads_checked}
use Rattle.bitmap_input.proofs.StepEffects.{leaving}
use Rattle.bitmap_input.proofs.header.read_sides.Goals as goal

pub returns-in_err-width-clause-reads : goal.returns-in_err-width-clause-reads
returns-in_err-width-clause-reads g c =
    leaving (search rules)
    (let p = err_from_is_err_and c.from_residual.result c.from_residual.ensures.1 in
    rw (p.1, p.2) (reads_stop (λ width rest. number_behind_gap BadHeader rest >>= λ height rest. checked width height rest) c.in_err-width.ensures.reads.step))

pub returns-in_err-height-clause-reads : goal.returns-in_err-height-clause-reads
returns-in_err-height-clause-reads g c =
    leaving (search rules)
    (let p = err_from_is_err_and c.from_residual-in_err-height.result c.from_residual-in_err-height.ensures.1 in
    rw (p.1, p.2) (reads_on (number_behind_gap_stays BadHeader) c.in_ok-width.ensures.reads.step
    (λ width _. reads_stop (λ height rest. checked width height rest) c.in_err-height.ensures.reads.step)))

pub returns-clause-reads : goal.returns-clause-reads
returns-clause-reads g c =
    leaving (search rules)
    (reads_on (number_behind_gap_stays BadHeader) c.in_ok-width.ensures.reads.step
    (λ width is_width. reads_on (number_behind_gap_stays BadHeader) c.in_ok-height.ensures.reads.step
    (λ height is_height. reads_checked width height is_width is_height c.check.ensures.checks)))
