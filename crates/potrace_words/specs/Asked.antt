-- What the command line asks for (the potrace manual page).
use Rattle.std.specs.Prelude.{◌≡◌, ◌≢◌, ℕ, ◌≤◌, Bool, true, false, List, [], ◌∷◌, Option, None, Some, All, codes, count_by}
use Rattle.std.specs.Str.{bytes_eq}
use Rattle.pt_base.specs.Micro.{IsMicro}
use Rattle.pt_base.specs.Whole.{IsWhole}
use Rattle.pt_core.specs.declared.policy.Policy.{Policy}
use Rattle.pt_core.specs.declared.policy.Policy.TheVariants.{Left, Right, Black, White, Majority, Minority}
use Rattle.pt_core.specs.declared.settings.Backend.{Backend}
use Rattle.pt_core.specs.declared.settings.Backend.TheVariants.{Eps, Svg, Proofs}
use Rattle.pt_core.specs.declared.settings.Settings.{Settings}
use Rattle.pt_core.specs.Needs.{CanTrace, backend_word}
use Rattle.pt_core.specs.Needs.{IsOffered}
use Rattle.potrace_options.specs.Given.{Given}
use Rattle.potrace_options.specs.Parsed.{parsed}
use Rattle.potrace_options.specs.declared.parsed.Parsed.{Parsed}
use Rattle.potrace_options.specs.declared.parsed.Parsed.TheVariants as words
use Rattle.run_output.specs.Names.{dash}
use Rattle.potrace_words.specs.declared.ask.Ask.{Ask}
use Rattle.potrace_words.specs.declared.ask.Ask.TheVariants.{Help, Version, Demo, Files}

-- the name of a turn policy (the potrace manual page, option "turnpolicy")
abbrev pub policy_word : Policy → List ℕ
policy_word Left = codes "left"
policy_word Right = codes "right"
policy_word Black = codes "black"
policy_word White = codes "white"
policy_word Majority = codes "majority"
policy_word Minority = codes "minority"

-- the value of `-b`, and whether `-s` and `-e` are given, name this backend; at most one of the three may be given
abbrev pub NamesBackend : Option (List ℕ) → Bool → Bool → Backend → Type 0
NamesBackend None false false backend = backend ≡ Eps
NamesBackend None true false backend = backend ≡ Svg
NamesBackend None false true backend = backend ≡ Eps
NamesBackend (Some name) false false backend = name ≡ backend_word backend
NamesBackend None true true backend = ⊥
NamesBackend (Some name) true eps backend = ⊥
NamesBackend (Some name) false true backend = ⊥

-- the value of `-z` names this turn policy
abbrev pub NamesPolicy : Option (List ℕ) → Policy → Type 0
NamesPolicy None policy = policy ≡ Minority
NamesPolicy (Some name) policy = name ≡ policy_word policy

-- the value is a whole number n from `least` to `most`, or there is no value and n is the default
abbrev pub IsWholeOr : Option (List ℕ) → ℕ → ℕ → ℕ → ℕ → Type 0
IsWholeOr None default least most n = n ≡ default
IsWholeOr (Some text) default least most n = IsWhole text n × (least ≤ n) × (n ≤ most)

-- there is a value, and it is a whole number n from `least` to `most`
abbrev pub IsWholeOf : Option (List ℕ) → ℕ → ℕ → ℕ → Type 0
IsWholeOf None least most n = ⊥
IsWholeOf (Some text) least most n = IsWhole text n × (least ≤ n) × (n ≤ most)

-- the value is a decimal number of n millionths and at most `most`, or there is no value and n is the default
abbrev pub IsMicroOr : Option (List ℕ) → ℕ → ℕ → ℕ → Type 0
IsMicroOr None default most n = n ≡ default
IsMicroOr (Some text) default most n = IsMicro text n × (n ≤ most)

-- certificates are only made for polygons through the first points of their paths
abbrev pub CertifiesFirst : Backend → Bool → Type 0
CertifiesFirst backend cyclic = backend ≡ Proofs → cyclic ≡ false

-- the options give these settings; each value is followed by its default, its least and its greatest number
pub record GivesSettings (given : Given) (settings : Settings) : Type 0 where
  pub backend : NamesBackend given.backend given.svg given.eps settings.backend
  pub policy : NamesPolicy given.turnpolicy settings.policy
  pub turd : IsWholeOr given.turdsize 2 0 1000000000 settings.turd
  pub cyclic : settings.cyclic ≡ given.cyclic
  pub certified : CertifiesFirst settings.backend settings.cyclic
  pub alphamax : IsMicroOr given.alphamax 1000000 1000000000 settings.alphamax
  pub long_curve : settings.long_curve ≡ given.longcurve
  pub tolerance : IsMicroOr given.opttolerance 200000 1000000000 settings.tolerance
  pub unit : IsWholeOr given.unit 10 1 1000 settings.unit
  pub flat : settings.flat ≡ given.flat
  pub level : IsMicroOr given.blacklevel 500000 1000000 settings.level
  pub invert : settings.invert ≡ given.invert

-- no file name is empty, and standard input is named at most once
pub record AreProper (files : List (List ℕ)) : Type 0 where
  pub not_empty : All (λ name. name ≢ []) files
  pub dash_once : count_by (λ name. bytes_eq name dash) files ≤ 1

-- the files to read: the named ones, or standard input if none is named
abbrev pub inputs_of : List (List ℕ) → List (List ℕ)
inputs_of [] = dash ∷ []
inputs_of (file ∷ files) = file ∷ files

-- this number of made-up pages is to be traced, and neither a file nor an output is named
pub record AsksDemo (given : Given) (pages workers : ℕ) (settings : Settings) : Type 0 where
  pub many : IsWholeOf given.demo 1 64 pages
  pub no_file : given.files ≡ []
  pub no_output : given.output ≡ None
  pub by : IsWholeOr given.workers 4 1 64 workers
  pub under : GivesSettings given settings

-- files are to be traced, and no made-up pages
pub record AsksFiles (given : Given) (names : List (List ℕ)) (output : Option (List ℕ)) (workers : ℕ) (settings : Settings) : Type 0 where
  pub no_demo : given.demo ≡ None
  pub proper : AreProper given.files
  pub inputs : names ≡ inputs_of given.files
  pub named : output ≡ given.output
  pub output_not_empty : given.output ≢ Some []
  pub by : IsWholeOr given.workers 4 1 64 workers
  pub under : GivesSettings given settings

-- what the options and files ask for; if they ask for the version, everything else is ignored
abbrev pub AsksOf : Bool → Given → Ask → Type 0
AsksOf true given ask = ask ≡ Version
AsksOf false given Help = ⊥
AsksOf false given Version = ⊥
AsksOf false given (Demo pages workers settings) = AsksDemo given pages workers settings
AsksOf false given (Files names output workers settings) = AsksFiles given names output workers settings

-- what a parsed command line asks for
abbrev pub Asks : Parsed → Ask → Type 0
Asks words.Help ask = ask ≡ Help
Asks words.Refused ask = ⊥
Asks (words.Gives given) ask = AsksOf given.version given ask

-- the command line asks for this
abbrev pub IsAsked : List (List ℕ) → Ask → Type 0
IsAsked words ask = Asks (parsed words) ask

-- the program can do what is asked for: the settings, pages and workers are in range, there is a file, and no name is
-- empty
abbrev pub CanBeDone : Ask → Type 0
CanBeDone Help = Unit {0}
CanBeDone Version = Unit {0}
CanBeDone (Demo pages workers settings) = IsOffered settings × (1 ≤ pages) × (pages ≤ 64) × (1 ≤ workers) × (workers ≤ 64) × CanTrace settings
CanBeDone (Files names output workers settings) =
    IsOffered settings × (names ≢ []) × All (λ name. name ≢ []) names × (output ≢ Some []) × (1 ≤ workers) × (workers ≤ 64)
