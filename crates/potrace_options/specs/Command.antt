-- The command as `clap` reads it: options that may be given once, and any number of file names (the potrace manual
-- page); `--cyclic` and `--flat` are options too.
use Rattle.std.specs.Prelude.{ℕ, true, List, [], ◌∷◌, Option, None, Some, codes}
use Rattle.clap.specs.Walk.{Row, Rule}
use Rattle.clap.specs.Simple.{App, matches_of, new_app, new_rule, with_rule}
use Rattle.clap.specs.Kinds.{Kinds}
use Rattle.clap.specs.Faults.{fault_of}
use Rattle.clap.specs.declared.builder.action.ArgAction.{ArgAction}
use Rattle.clap.specs.declared.builder.action.ArgAction.TheVariants.{Set, SetTrue, Append}

-- an option with this short name, if there is one, this long name, and this action
abbrev pub option_rule : Option ℕ → List ℕ → ArgAction → Rule
option_rule short name action = record (new_rule name) { short = short; long = Some name; action = Some action }

-- an option with a value: `-s VALUE` or `--name VALUE`
abbrev pub option : ℕ → List ℕ → Rule
option short name = option_rule (Some short) name Set

-- an option with a value and without a short name: `--name VALUE`
abbrev pub long_option : List ℕ → Rule
long_option name = option_rule None name Set

-- an option without a value: `-s` or `--name`
abbrev pub flag : ℕ → List ℕ → Rule
flag short name = option_rule (Some short) name SetTrue

-- an option without a value and without a short name: `--name`
abbrev pub long_flag : List ℕ → Rule
long_flag name = option_rule None name SetTrue

-- arguments that are neither an option nor an option's value
abbrev pub operands : List ℕ → Rule
operands name = record (new_rule name) { action = Some Append }

-- the options, and the files
abbrev pub options : List Rule
options =
    -- what is written, and to which file: -b, -s, -e and -o
    option 98 (codes "backend") ∷ flag 115 (codes "svg") ∷ flag 101 (codes "eps") ∷ option 111 (codes "output")
    -- how outlines are made: -z, -t, -a, -n, -O and --cyclic
    ∷ option 122 (codes "turnpolicy") ∷ option 116 (codes "turdsize") ∷ option 97 (codes "alphamax") ∷ flag 110 (codes "longcurve")
    ∷ option 79 (codes "opttolerance") ∷ long_flag (codes "cyclic")
    -- how pages are read and shown: -u, -k, -i, -c and --flat
    ∷ option 117 (codes "unit") ∷ option 107 (codes "blacklevel") ∷ flag 105 (codes "invert") ∷ flag 99 (codes "cleartext")
    ∷ long_flag (codes "flat")
    -- what the program does, with how many workers, and with which files: --workers, --demo, -v and the files
    ∷ long_option (codes "workers") ∷ long_option (codes "demo") ∷ flag 118 (codes "version") ∷ operands (codes "file") ∷ []

-- a command with more options
abbrev pub with_rules : App → List Rule → App
with_rules app [] = app
with_rules app (rule ∷ rules) = with_rules (with_rule app rule) rules

-- a command without options, with arguments that don't include the program's name; each command has `-h` and `--help`
abbrev pub unnamed : App
unnamed = record (new_app (codes "potrace")) { top = record (new_app (codes "potrace")).top { no_binary_name = true } }

-- the program's command
abbrev pub command : App
command = with_rules unnamed options

-- what `clap` finds in the arguments, if it accepts them
abbrev pub rows_of_words : List (List ℕ) → List Row
rows_of_words words = matches_of command words

-- the errors that `clap` may find in the arguments: none if it accepts them
abbrev pub faults_of_words : List (List ℕ) → Kinds
faults_of_words words = fault_of command words
