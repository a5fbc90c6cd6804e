use Rattle.std.proofs.Common.{◌∙◌, ap}
use Rattle.clap.specs.Simple.{app_of, with_rule}
use Rattle.clap.specs.Walk.{Rule}
use Rattle.potrace_options.proofs.OneMoreOption.{with_next_row}
use Rattle.potrace_options.proofs.command.with_options.Goals as goal

-- the rule of the next row is added
pub loop-row-preserved : goal.loop-row-preserved
loop-row-preserved c =
    let next = c.in_ok-command.ensures.shape c.option.ensures.local ∙ ap (λ (rule : Rule). with_rule (app_of c.loop-row.command) rule) c.option.ensures.rule in
    with_next_row (app_of c.args.command) (app_of c.loop-row.command) (app_of c.in_ok-command.command) c.args.rows.now c.loop-row.row-index _
    c.loop-row-test.true c.loop-row.invariant next
