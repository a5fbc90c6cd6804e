use Rattle.std.proofs.Common.{◌≡◌, map, take}
use Rattle.clap.specs.Simple.{app_of}
use Rattle.potrace_options.specs.Inner.Command.{rule_of_row}
use Rattle.potrace_options.specs.Command.{with_rules}
use Rattle.potrace_options.proofs.command.with_options.Given as goal

-- the command has a rule for each row before the current one
abbrev pub invariant-loop-row : goal.invariant-loop-row
invariant-loop-row l = app_of l.command ≡ with_rules (app_of l.initial.command) (map rule_of_row (take l.row-index l.rows))
