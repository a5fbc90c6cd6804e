-- A command line asks for at most one thing.
use Rattle.std.proofs.Common.{◌≡◌, ◌∙◌, ℕ, Bool, true, false, List, Option, Some, None, refl, sym, ap, sum, arith}
use Rattle.pt_base.proofs.Decimals.{one_micro}
use Rattle.pt_core.specs.declared.policy.Policy.{Policy}
use Rattle.pt_core.specs.declared.policy.Policy.TheVariants.{Left, Right, Black, White, Majority, Minority}
use Rattle.pt_core.specs.declared.settings.Backend.{Backend}
use Rattle.pt_core.specs.declared.settings.Backend.TheVariants.{Eps, Ps, Svg, Dxf, GeoJson, Points, Polygons, Proofs}
use Rattle.pt_core.specs.declared.settings.Settings.{Settings}
use Rattle.potrace_options.specs.Given.{Given}
use Rattle.potrace_options.specs.Parsed.{parsed}
use Rattle.potrace_options.specs.declared.parsed.Parsed.{Parsed}
use Rattle.potrace_options.specs.declared.parsed.Parsed.TheVariants as words
use Rattle.potrace_words.specs.declared.ask.Ask.{Ask}
use Rattle.potrace_words.specs.declared.ask.Ask.TheVariants.{Help, Version, Demo, Files}
use Rattle.potrace_words.specs.Asked.{Asks, AsksOf, GivesSettings, IsAsked, IsMicroOr, IsWholeOf, IsWholeOr, NamesBackend, NamesPolicy, policy_word}
use Rattle.pt_core.specs.Needs.{backend_word}

-- At most one thing.

-- two names differ if the sums of their letters do
same_policy : (p q : Policy) → policy_word p ≡ policy_word q → p ≡ q
same_policy Left Left e = refl
same_policy Right Right e = refl
same_policy Black Black e = refl
same_policy White White e = refl
same_policy Majority Majority e = refl
same_policy Minority Minority e = refl
same_policy p q e = absurd (let same : sum (policy_word p) ≡ sum (policy_word q) = ap sum e in omega (arith, same))

same_backend : (p q : Backend) → backend_word p ≡ backend_word q → p ≡ q
same_backend Eps Eps e = refl
same_backend Ps Ps e = refl
same_backend Svg Svg e = refl
same_backend Dxf Dxf e = refl
same_backend GeoJson GeoJson e = refl
same_backend Points Points e = refl
same_backend Polygons Polygons e = refl
same_backend Proofs Proofs e = refl
same_backend p q e = absurd (let same : sum (backend_word p) ≡ sum (backend_word q) = ap sum e in omega (arith, same))

one_policy : (name : Option (List ℕ)) (p q : Policy) → NamesPolicy name p → NamesPolicy name q → p ≡ q
one_policy None p q a b = a ∙ sym b
one_policy (Some name) p q a b = same_policy p q (sym a ∙ b)

one_backend : (name : Option (List ℕ)) (svg eps : Bool) (p q : Backend) → NamesBackend name svg eps p → NamesBackend name svg eps q → p ≡ q
one_backend None false false p q a b = a ∙ sym b
one_backend None true false p q a b = a ∙ sym b
one_backend None false true p q a b = a ∙ sym b
one_backend None true true p q a b = absurd a
one_backend (Some name) false false p q a b = same_backend p q (sym a ∙ b)
one_backend (Some name) true eps p q a b = absurd a
one_backend (Some name) false true p q a b = absurd a

one_whole : (text : Option (List ℕ)) (default least most n m : ℕ) → IsWholeOr text default least most n → IsWholeOr text default least most m → n ≡ m
one_whole None default least most n m a b = a ∙ sym b
one_whole (Some text) default least most n m a b = sym a.0.value ∙ b.0.value

one_given : (text : Option (List ℕ)) (least most n m : ℕ) → IsWholeOf text least most n → IsWholeOf text least most m → n ≡ m
one_given None least most n m a b = absurd a
one_given (Some text) least most n m a b = sym a.0.value ∙ b.0.value

one_decimal : (text : Option (List ℕ)) (default most n m : ℕ) → IsMicroOr text default most n → IsMicroOr text default most m → n ≡ m
one_decimal None default most n m a b = a ∙ sym b
one_decimal (Some text) default most n m a b = one_micro text n m a.0 b.0

one_settings : (g : Given) (s t : Settings) → GivesSettings g s → GivesSettings g t → s ≡ t
one_settings g s t a b =
    let backend = one_backend g.backend g.svg g.eps s.backend t.backend a.backend b.backend in
    let policy = one_policy g.turnpolicy s.policy t.policy a.policy b.policy in
    let turd = one_whole g.turdsize 2 0 1000000000 s.turd t.turd a.turd b.turd in
    let cyclic : s.cyclic ≡ t.cyclic = a.cyclic ∙ sym b.cyclic in
    let alphamax = one_decimal g.alphamax 1000000 1000000000 s.alphamax t.alphamax a.alphamax b.alphamax in
    let long_curve : s.long_curve ≡ t.long_curve = a.long_curve ∙ sym b.long_curve in
    let tolerance = one_decimal g.opttolerance 200000 1000000000 s.tolerance t.tolerance a.tolerance b.tolerance in
    let unit = one_whole g.unit 10 1 1000 s.unit t.unit a.unit b.unit in
    let flat : s.flat ≡ t.flat = a.flat ∙ sym b.flat in
    let level = one_decimal g.blacklevel 500000 1000000 s.level t.level a.level b.level in
    let invert : s.invert ≡ t.invert = a.invert ∙ sym b.invert in
    λ i. record {
      backend = backend i;
      policy = policy i;
      turd = turd i;
      cyclic = cyclic i;
      alphamax = alphamax i;
      long_curve = long_curve i;
      tolerance = tolerance i;
      unit = unit i;
      flat = flat i;
      level = level i;
      invert = invert i;
    }

-- a value that is given isn't missing
not_both : (text : Option (List ℕ)) (n : ℕ) → IsWholeOf text 1 64 n → text ≡ None → ⊥
not_both None n a none = a
not_both (Some text) n a none = let e : Some text ≡ None = none in cc

one_of_given : (version : Bool) (g : Given) (one other : Ask) → AsksOf version g one → AsksOf version g other → one ≡ other
one_of_given true g one other a b = a ∙ sym b
one_of_given false g Help other a b = absurd a
one_of_given false g Version other a b = absurd a
one_of_given false g one Help a b = absurd b
one_of_given false g one Version a b = absurd b
one_of_given false g (Demo pages workers settings) (Demo more others under) a b =
    let many = one_given g.demo 1 64 pages more a.many b.many in
    let by = one_whole g.workers 4 1 64 workers others a.by b.by in
    let same = one_settings g settings under a.under b.under in
    λ i. Demo (many i) (by i) (same i)
one_of_given false g (Demo pages workers settings) (Files names output others under) a b = absurd (not_both g.demo pages a.many b.no_demo)
one_of_given false g (Files names output others under) (Demo pages workers settings) a b = absurd (not_both g.demo pages b.many a.no_demo)
one_of_given false g (Files names output workers settings) (Files more put others under) a b =
    let listed : names ≡ more = a.inputs ∙ sym b.inputs in
    let named : output ≡ put = a.named ∙ sym b.named in
    let by = one_whole g.workers 4 1 64 workers others a.by b.by in
    let same = one_settings g settings under a.under b.under in
    λ i. Files (listed i) (named i) (by i) (same i)

one_of_parsed : (p : Parsed) (one other : Ask) → Asks p one → Asks p other → one ≡ other
one_of_parsed words.Help one other a b = a ∙ sym b
one_of_parsed words.Refused one other a b = absurd a
one_of_parsed (words.Gives g) one other a b = one_of_given g.version g one other a b

pub one_ask : (texts : List (List ℕ)) (one other : Ask) → IsAsked texts one → IsAsked texts other → one ≡ other
one_ask texts one other a b = one_of_parsed (parsed texts) one other a b
