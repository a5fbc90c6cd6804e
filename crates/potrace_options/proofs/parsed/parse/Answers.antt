use Rattle.std.proofs.Common.{◌∙◌, map, sym}
use Rattle.std.specs.Prelude.{string_bytes}
use Rattle.clap.specs.Walk.{rows_of}
use Rattle.clap.specs.Matches.{found_of}
use Rattle.clap.specs.Simple.{app_of}
use Rattle.potrace_options.proofs.ParseAnswers.{gives_by, helps_by, refuses_by}
use Rattle.potrace_options.proofs.parsed.parse.Goals as goal

-- the arguments are accepted
pub returns-in-Ok : goal.returns-in-Ok
returns-in-Ok c =
    gives_by (app_of c.in_ok-command.command) (map string_bytes c.args.words.now) (rows_of (found_of c.in-Ok.matches)) c.in_ok-given-in-Ok.given
    c.in_ok-command.ensures c.in-Ok.ensures.kinds (λ s. (c.in-Ok.ensures.matches s).0) c.in_ok-given-in-Ok.ensures

-- help is to be shown
pub returns-in-DisplayHelp : goal.returns-in-DisplayHelp
returns-in-DisplayHelp c =
    helps_by (app_of c.in_ok-command.command) (map string_bytes c.args.words.now) _ c.in_ok-command.ensures c.in-Err.ensures.kinds
    (sym c.kind.ensures ∙ c.in-DisplayHelp.is)

-- another error was found
pub returns : goal.returns
returns c =
    refuses_by (app_of c.in_ok-command.command) (map string_bytes c.args.words.now) _ c.in_ok-command.ensures c.in-Err.ensures.kinds
    (λ e. c.in_default.not-DisplayHelp (c.kind.ensures ∙ e)) (λ e. c.in_default.not-OutOfMemory (c.kind.ensures ∙ e))
