-- The result of parsing a command line.
use Rattle.std.specs.Prelude.{ℕ, List, [], ◌∷◌}
use Rattle.clap.specs.Kinds.{Kinds}
use Rattle.clap.specs.declared.error.kind.ErrorKind.{ErrorKind}
use Rattle.clap.specs.declared.error.kind.ErrorKind.TheVariants.{DisplayHelp}
use Rattle.potrace_options.specs.Command.{faults_of_words, rows_of_words}
use Rattle.potrace_options.specs.Given.{Given, given_of}
use Rattle.potrace_options.specs.declared.parsed.Parsed.{Parsed}
use Rattle.potrace_options.specs.declared.parsed.Parsed.TheVariants.{Help, Refused, Gives}

-- the result of arguments with this error: help if `clap` would show its help, else a refusal
abbrev pub parsed_by_fault : ErrorKind → Parsed
parsed_by_fault DisplayHelp = Help
parsed_by_fault _ = Refused

-- the result of arguments with at most this error: without one, the values that were found
abbrev pub parsed_by : Kinds → Given → Parsed
parsed_by [] given = Gives given
parsed_by (fault ∷ _) given = parsed_by_fault fault

-- the result of parsing these arguments
abbrev pub parsed : List (List ℕ) → Parsed
parsed words = parsed_by (faults_of_words words) (given_of (rows_of_words words))
