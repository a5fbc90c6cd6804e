use Rattle.std.proofs.Common.{◌∙◌, map, sym}
use Rattle.std.specs.Prelude.{string_bytes}
use Rattle.clap.specs.Walk.{rows_of}
use Rattle.clap.specs.Matches.{found_of}
use Rattle.clap.specs.Simple.{app_of}
use Rattle.mkbitmap_words.proofs.FilterAsks.{gives_by, gives_none, helps_by, refuses_by}
use Rattle.mkbitmap_words.proofs.ask.filter_ask_of.Goals as goal

-- the options give a setup
pub returns-in-Some-clause-ok : goal.returns-in-Some-clause-ok
returns-in-Some-clause-ok c =
    gives_by (app_of c.in-Ok.command) (map string_bytes c.args.words.now) (rows_of (found_of c.in-Ok-try_get_matches_from.matches)) c.in-Ok.ensures
    c.in-Ok-try_get_matches_from.ensures.kinds (λ s. (c.in-Ok-try_get_matches_from.ensures.matches s).0) c.in-Some.setup c.in-Some.ensures.gives

-- the options give no setup
pub returns-in-Ok-try_get_matches_from-clause-bad : goal.returns-in-Ok-try_get_matches_from-clause-bad
returns-in-Ok-try_get_matches_from-clause-bad c = λ _.
    gives_none (app_of c.in-Ok.command) (map string_bytes c.args.words.now) (rows_of (found_of c.in-Ok-try_get_matches_from.matches)) c.in-Ok.ensures
    c.in-Ok-try_get_matches_from.ensures.kinds (λ s. (c.in-Ok-try_get_matches_from.ensures.matches s).0) c.in-None.ensures.refused

-- help is to be shown
pub returns-in-DisplayHelp-clause-ok : goal.returns-in-DisplayHelp-clause-ok
returns-in-DisplayHelp-clause-ok c =
    helps_by (app_of c.in-Ok.command) (map string_bytes c.args.words.now) _ c.in-Ok.ensures c.in-Err.ensures.kinds (sym c.kind.ensures ∙ c.in-DisplayHelp.is)

-- another error was found
pub returns : goal.returns
returns c = record {
  ok = tt;
  bad = λ _.
      refuses_by (app_of c.in-Ok.command) (map string_bytes c.args.words.now) _ c.in-Ok.ensures c.in-Err.ensures.kinds
      (λ e. c.in_default-kind.not-DisplayHelp (c.kind.ensures ∙ e)) (λ e. c.in_default-kind.not-OutOfMemory (c.kind.ensures ∙ e));
  can_filter = tt;
}
