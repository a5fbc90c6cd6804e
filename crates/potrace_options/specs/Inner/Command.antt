-- The rules of the command, from the program's table of options.
use Rattle.clap.specs.Walk.{Rule}
use Rattle.potrace_options.specs.declared.command.OptionRow.{OptionRow}
use Rattle.potrace_options.specs.Command.{option_rule}

-- the rule of a row of the program's table
abbrev pub rule_of_row : OptionRow → Rule
rule_of_row row = option_rule row.0 row.1.now row.2
