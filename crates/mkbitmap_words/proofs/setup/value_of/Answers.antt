use Rattle.std.proofs.Common.{◌∙◌}
use Rattle.clap.specs.Matches.{found_of}
use Rattle.clap.proofs.WalkLemmas.{first_value-rows}
use Rattle.mkbitmap_words.proofs.setup.value_of.Goals as goal

-- the first value of a match is that of its first row
pub returns : goal.returns
returns c = c.get_str.ensures ∙ first_value-rows (found_of c.args.matches.now) c.args.name.now
