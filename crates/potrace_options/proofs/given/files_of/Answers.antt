use Rattle.std.proofs.Common.{◌∙◌, ℕ, List, [], Option, ap, codes}
use Rattle.std.specs.Prelude.{unwrap_or}
use Rattle.std.proofs.lemmas.Result.{IfOk-weaker}
use Rattle.clap.specs.Matches.{found_of}
use Rattle.clap.proofs.WalkLemmas.{raw_values-rows}
use Rattle.potrace_options.proofs.given.files_of.Goals as goal

abbrev listed : Option (List (List ℕ)) → List (List ℕ)
listed values = unwrap_or values []

-- the files are in the rows that were found
pub returns-in-Some : goal.returns-in-Some
returns-in-Some c =
    let found = c.in-Some.ensures ∙ raw_values-rows (found_of c.args.matches.now) (codes "file") in
    IfOk-weaker c.names_of.result _ _ (λ names h. h ∙ ap listed found) c.names_of.ensures

-- no row has a file
pub returns-in-None : goal.returns-in-None
returns-in-None c = c.new.ensures ∙ ap listed (c.in-None.ensures ∙ raw_values-rows (found_of c.args.matches.now) (codes "file"))
