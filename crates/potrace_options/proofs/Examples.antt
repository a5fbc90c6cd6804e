-- The results of some command lines.
use Rattle.std.proofs.Common.{◌≡◌, ◌∷◌, [], refl, codes, None, Some, true, false}
use Rattle.clap.proofs.OnLiterals.{clap_on_literals}
use Rattle.potrace_options.specs.Given.{Given}
use Rattle.potrace_options.specs.Parsed.{parsed}
use Rattle.potrace_options.specs.declared.parsed.Parsed.TheVariants.{Help, Refused, Gives}

abbrev nothing : Given
nothing = record {
  backend = None;
  svg = false;
  eps = false;
  output = None;
  turnpolicy = None;
  turdsize = None;
  cyclic = false;
  alphamax = None;
  longcurve = false;
  opttolerance = None;
  unit = None;
  blacklevel = None;
  invert = false;
  flat = false;
  workers = None;
  demo = None;
  version = false;
  files = [];
}

no_words : parsed [] ≡ Gives nothing
unfolding clap_on_literals
no_words = refl

-- `-vh`: help is found while the arguments are read
version_and_help : parsed (codes "-vh" ∷ []) ≡ Help
unfolding clap_on_literals
version_and_help = refl

-- `-t -h`: an option without its value is an error that is found first
help_for_a_value : parsed (codes "-t" ∷ codes "-h" ∷ []) ≡ Refused
unfolding clap_on_literals
help_for_a_value = refl

-- `--worker 2`: the name of an option can't be abbreviated
shortened_option : parsed (codes "--worker" ∷ codes "2" ∷ []) ≡ Refused
unfolding clap_on_literals
shortened_option = refl

-- `--workers=7 --demo 3`: values are texts
workers_and_demo :
    parsed (codes "--workers=7" ∷ codes "--demo" ∷ codes "3" ∷ []) ≡ Gives (record nothing { workers = Some (codes "7"); demo = Some (codes "3") })
unfolding clap_on_literals
workers_and_demo = refl

-- `--demo 3 -h`: help is found after a value
help_behind_a_value : parsed (codes "--demo" ∷ codes "3" ∷ codes "-h" ∷ []) ≡ Help
unfolding clap_on_literals
help_behind_a_value = refl

-- `a -n -t=5 -`: file names may come between options, and `-` is one
files_between_options :
    parsed (codes "a" ∷ codes "-n" ∷ codes "-t=5" ∷ codes "-" ∷ [])
    ≡ Gives (record nothing { turdsize = Some (codes "5"); longcurve = true; files = codes "a" ∷ codes "-" ∷ [] })
unfolding clap_on_literals
files_between_options = refl
