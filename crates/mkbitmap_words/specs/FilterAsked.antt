-- What the command line of `mkbitmap` asks for. Its options are `--box`, `--times` and `--level`, each at most once,
-- and it takes no file name.
use Rattle.std.specs.Prelude.{◌≡◌, ℕ, ◌≤◌, true, List, [], ◌∷◌, codes, unwrap_or}
use Rattle.clap.specs.Walk.{Row, first_of}
use Rattle.clap.specs.Simple.{App, matches_of, new_app}
use Rattle.clap.specs.Kinds.{Kinds}
use Rattle.clap.specs.Faults.{fault_of}
use Rattle.clap.specs.declared.error.kind.ErrorKind.TheVariants.{DisplayHelp}
use Rattle.potrace_options.specs.Command.{long_option, with_rules}
use Rattle.pt_base.specs.Micro.{IsMicro}
use Rattle.pt_base.specs.Whole.{IsWhole}
use Rattle.mkbitmap_words.specs.declared.ask.FilterAsk.{FilterAsk}
use Rattle.mkbitmap_words.specs.declared.ask.FilterAsk.TheVariants.{Help, Page}
use Rattle.mkbitmap_words.specs.declared.setup.Setup.{Setup}

-- the program's command; its arguments don't include the program's name, and each command has `-h` and `--help`
abbrev pub filter_command : App
filter_command =
    with_rules (record (new_app (codes "mkbitmap")) { top = record (new_app (codes "mkbitmap")).top { no_binary_name = true } })
    (long_option (codes "box") ∷ long_option (codes "times") ∷ long_option (codes "level") ∷ [])

-- the value of an option, or the default if the option isn't given
abbrev pub option_text : List ℕ → List ℕ → List Row → List ℕ
option_text name default rows = unwrap_or (first_of name rows) default

-- the options give this setup
pub record GivesSetup (rows : List Row) (setup : Setup) : Type 0 where
  pub radius : IsWhole (option_text (codes "box") (codes "4") rows) setup.radius
  pub most_radius : setup.radius ≤ 64
  pub times : IsWhole (option_text (codes "times") (codes "2") rows) setup.times
  pub some_times : 1 ≤ setup.times
  pub most_times : setup.times ≤ 8
  pub level : IsMicro (option_text (codes "level") (codes "0.45") rows) setup.level
  pub most_level : setup.level ≤ 1000000

-- what `clap` found in the arguments asks for this: for help, or without an error for the setup that the options give
abbrev pub AsksFilter : Kinds → List Row → FilterAsk → Type 0
AsksFilter [] rows Help = ⊥
AsksFilter [] rows (Page setup) = GivesSetup rows setup
AsksFilter (fault ∷ _) rows ask = (fault ≡ DisplayHelp) × (ask ≡ Help)

-- the command line asks for this
abbrev pub IsFilterAsked : List (List ℕ) → FilterAsk → Type 0
IsFilterAsked words ask = AsksFilter (fault_of filter_command words) (matches_of filter_command words) ask
