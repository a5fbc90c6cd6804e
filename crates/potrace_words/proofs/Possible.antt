-- What a command line asks for can be done.
use Rattle.std.proofs.Common.{◌≡◌, ◌≢◌, ◌≤◌, ℕ, Bool, true, false, List, [], ◌∷◌, Option, Some, None, All, sym, ap, subst, codes, length, refl, arith}
use Rattle.std.proofs.lemmas.List.Elements.{All-cons, All-nil}
use Rattle.pt_core.specs.declared.settings.Backend.{Backend}
use Rattle.pt_core.specs.declared.settings.Backend.TheVariants.{Eps, Ps, Svg, Dxf, GeoJson, Points, Polygons, Proofs}
use Rattle.pt_core.specs.declared.settings.Settings.{Settings}
use Rattle.pt_core.specs.Needs.{CanDraw, CanTrace, CanWriteUnder}
use Rattle.pt_core.specs.Needs.{IsOffered}
use Rattle.potrace_options.specs.Given.{Given}
use Rattle.potrace_options.specs.Parsed.{parsed}
use Rattle.potrace_options.specs.declared.parsed.Parsed.{Parsed}
use Rattle.potrace_options.specs.declared.parsed.Parsed.TheVariants as words
use Rattle.run_output.specs.Names.{dash}
use Rattle.potrace_words.specs.declared.ask.Ask.{Ask}
use Rattle.potrace_words.specs.declared.ask.Ask.TheVariants.{Help, Version, Demo, Files}
use Rattle.potrace_words.specs.Asked.{Asks, AsksDemo, AsksFiles, AsksOf, CanBeDone, CertifiesFirst, GivesSettings, IsAsked, IsMicroOr, IsWholeOf, IsWholeOr, inputs_of}

-- a number is in its range if its default is
whole_within : (text : Option (List ℕ)) (default least most n : ℕ) → least ≤ default → default ≤ most → IsWholeOr text default least most n
    → (least ≤ n) × (n ≤ most)
whole_within None default least most n from to is = rw is (from, to)
whole_within (Some text) default least most n from to is = (is.1, is.2)

given_within : (text : Option (List ℕ)) (least most n : ℕ) → IsWholeOf text least most n → (least ≤ n) × (n ≤ most)
given_within None least most n is = absurd is
given_within (Some text) least most n is = (is.1, is.2)

micro_within : (text : Option (List ℕ)) (default most n : ℕ) → default ≤ most → IsMicroOr text default most n → n ≤ most
micro_within None default most n to is = rw is to
micro_within (Some text) default most n to is = is.1

-- settings that can be drawn can be written by each backend
can_write : (backend : Backend) (settings : Settings) → CertifiesFirst backend settings.cyclic → CanDraw settings → CanWriteUnder backend settings
can_write Points settings first can = tt
can_write Polygons settings first can = tt
can_write Proofs settings first can = first refl
can_write Svg settings first can = can
can_write Eps settings first can = can
can_write Ps settings first can = can
can_write Dxf settings first can = can.traced
can_write GeoJson settings first can = can.traced

traced : (g : Given) (settings : Settings) → GivesSettings g settings → CanTrace settings
traced g settings gives = record {
  alphamax = micro_within g.alphamax 1000000 1000000000 settings.alphamax (omega arith) gives.alphamax;
  tolerance = micro_within g.opttolerance 200000 1000000000 settings.tolerance (omega arith) gives.tolerance;
}

offered : (g : Given) (settings : Settings) → GivesSettings g settings → IsOffered settings
offered g settings gives =
    let unit = whole_within g.unit 10 1 1000 settings.unit (omega arith) (omega arith) gives.unit in
    let drawn : CanDraw settings = record { traced = traced g settings gives; some = unit.0; most = unit.1 } in
    record {
      document = can_write settings.backend settings gives.certified drawn;
      level = micro_within g.blacklevel 500000 1000000 settings.level (omega arith) gives.level;
    }

some_input : (files : List (List ℕ)) → inputs_of files ≢ []
some_input [] e = let n : length (inputs_of []) ≡ 0 = ap (λ (names : List (List ℕ)). length names) e in omega (arith, n)
some_input (file ∷ files) e = let n : length (file ∷ files) ≡ 0 = ap (λ (names : List (List ℕ)). length names) e in omega (arith, n)

dash_named : codes "-" ≢ []
dash_named e = let n : length (codes "-") ≡ 0 = ap (λ (name : List ℕ). length name) e in omega (arith, n)

named_inputs : (files : List (List ℕ)) → All (λ name. name ≢ []) files → All (λ name. name ≢ []) (inputs_of files)
named_inputs [] named = All-cons (λ (name : List ℕ). name ≢ []) dash [] dash_named (All-nil (λ (name : List ℕ). name ≢ []))
named_inputs (file ∷ files) named = named

files_can_be_done : (g : Given) (names : List (List ℕ)) (output : Option (List ℕ)) (workers : ℕ) (settings : Settings)
    → AsksFiles g names output workers settings → CanBeDone (Files names output workers settings)
files_can_be_done g names output workers settings asks =
    let by = whole_within g.workers 4 1 64 workers (omega arith) (omega arith) asks.by in
    let some : names ≢ [] = rw asks.inputs (some_input g.files) in
    let named : All (λ name. name ≢ []) names = rw asks.inputs (named_inputs g.files asks.proper.not_empty) in
    let put : output ≢ Some [] = rw asks.named asks.output_not_empty in
    (offered g settings asks.under, some, named, put, by.0, by.1)

demo_can_be_done : (g : Given) (pages workers : ℕ) (settings : Settings) → AsksDemo g pages workers settings → CanBeDone (Demo pages workers settings)
demo_can_be_done g pages workers settings asks =
    let many = given_within g.demo 1 64 pages asks.many in
    let by = whole_within g.workers 4 1 64 workers (omega arith) (omega arith) asks.by in
    (offered g settings asks.under, many.0, many.1, by.0, by.1, traced g settings asks.under)

possible_of_given : (version : Bool) (g : Given) (ask : Ask) → AsksOf version g ask → CanBeDone ask
possible_of_given true g Help asks = tt
possible_of_given true g Version asks = tt
possible_of_given true g (Demo pages workers settings) asks = absurd (let e : Demo pages workers settings ≡ Version = asks in cc)
possible_of_given true g (Files names output workers settings) asks = absurd (let e : Files names output workers settings ≡ Version = asks in cc)
possible_of_given false g Help asks = absurd asks
possible_of_given false g Version asks = absurd asks
possible_of_given false g (Demo pages workers settings) asks = demo_can_be_done g pages workers settings asks
possible_of_given false g (Files names output workers settings) asks = files_can_be_done g names output workers settings asks

pub possible_of_parsed : (p : Parsed) (ask : Ask) → Asks p ask → CanBeDone ask
possible_of_parsed words.Help ask asks = subst CanBeDone (sym asks) tt
possible_of_parsed words.Refused ask asks = absurd asks
possible_of_parsed (words.Gives g) ask asks = possible_of_given g.version g ask asks

pub possible : (texts : List (List ℕ)) (ask : Ask) → IsAsked texts ask → CanBeDone ask
possible texts ask asks = possible_of_parsed (parsed texts) ask asks
