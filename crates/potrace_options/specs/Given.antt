-- What the command line gives, option by option.
use Rattle.std.specs.Prelude.{ℕ, Bool, false, List, [], Option, codes, unwrap_or}
use Rattle.std.specs.Option.{option_map_or}
use Rattle.std.specs.Str.{bytes_eq}
use Rattle.clap.specs.Walk.{Row, first_of, all_of}

-- the value of each option that is present, whether each flag is present, and the file names in order
pub record Given : Type 0 where
  pub backend : Option (List ℕ)
  pub svg : Bool
  pub eps : Bool
  pub output : Option (List ℕ)
  pub turnpolicy : Option (List ℕ)
  pub turdsize : Option (List ℕ)
  pub cyclic : Bool
  pub alphamax : Option (List ℕ)
  pub longcurve : Bool
  pub opttolerance : Option (List ℕ)
  pub unit : Option (List ℕ)
  pub blacklevel : Option (List ℕ)
  pub invert : Bool
  pub flat : Bool
  pub workers : Option (List ℕ)
  pub demo : Option (List ℕ)
  pub version : Bool
  pub files : List (List ℕ)

-- the flag of this name is present
abbrev pub is_set : List ℕ → List Row → Bool
is_set name rows = option_map_or (λ value. bytes_eq value (codes "true")) (first_of name rows) false

-- what the rows that `clap` found give
abbrev pub given_of : List Row → Given
given_of rows = record {
  backend = first_of (codes "backend") rows;
  svg = is_set (codes "svg") rows;
  eps = is_set (codes "eps") rows;
  output = first_of (codes "output") rows;
  turnpolicy = first_of (codes "turnpolicy") rows;
  turdsize = first_of (codes "turdsize") rows;
  cyclic = is_set (codes "cyclic") rows;
  alphamax = first_of (codes "alphamax") rows;
  longcurve = is_set (codes "longcurve") rows;
  opttolerance = first_of (codes "opttolerance") rows;
  unit = first_of (codes "unit") rows;
  blacklevel = first_of (codes "blacklevel") rows;
  invert = is_set (codes "invert") rows;
  flat = is_set (codes "flat") rows;
  workers = first_of (codes "workers") rows;
  demo = first_of (codes "demo") rows;
  version = is_set (codes "version") rows;
  files = unwrap_or (all_of (codes "file") rows) [];
}
