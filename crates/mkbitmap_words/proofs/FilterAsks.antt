-- What `clap` answers is what the command line asks for.
use Rattle.std.proofs.Common.{◌≡◌, ◌≢◌, ◌∙◌, ◌⊎◌, ℕ, Bool, true, false, List, [], ◌∷◌, refl, sym, ap, subst, inl, inr, true≢false}
use Rattle.clap.specs.Walk.{Row}
use Rattle.clap.specs.Simple.{App, is_simple, matches_of}
use Rattle.clap.specs.Kinds.{Kinds, IsAmong}
use Rattle.clap.specs.Faults.{fault_of, is_simple_and_free}
use Rattle.clap.specs.declared.error.kind.ErrorKind.{ErrorKind}
use Rattle.clap.specs.declared.error.kind.ErrorKind.TheVariants as kind
use Rattle.potrace_options.proofs.OneFault.{IsFew, among_few, few_faults}
use Rattle.pt_base.proofs.Decimals.{one_micro}
use Rattle.mkbitmap_words.specs.FilterAsked.{AsksFilter, GivesSetup, IsFilterAsked, filter_command}
use Rattle.mkbitmap_words.specs.Inner.FilterAsked.{CanFilter}
use Rattle.mkbitmap_words.specs.declared.ask.FilterAsk.{FilterAsk}
use Rattle.mkbitmap_words.specs.declared.ask.FilterAsk.TheVariants.{Help, Page}
use Rattle.mkbitmap_words.specs.declared.setup.Setup.{Setup}

free_command : is_simple_and_free filter_command ≡ true
free_command = refl

simple_command : is_simple filter_command ≡ true
simple_command = refl

few_in_words : (words : List (List ℕ)) → IsFew (fault_of filter_command words)
few_in_words words = few_faults filter_command words refl refl

-- `clap` accepts the arguments
module _ (a : App) (words : List (List ℕ)) (rows : List Row) (e : a ≡ filter_command) (free : is_simple_and_free a ≡ true → fault_of a words ≡ [])
    (found : is_simple a ≡ true → rows ≡ matches_of a words) where
  no_fault : fault_of filter_command words ≡ []
  no_fault = ap (λ (x : App). fault_of x words) (sym e) ∙ free (ap is_simple_and_free e ∙ free_command)

  rows_are : rows ≡ matches_of filter_command words
  rows_are = found (ap is_simple e ∙ simple_command) ∙ ap (λ (x : App). matches_of x words) e

  pub gives_by : (setup : Setup) → GivesSetup rows setup → IsFilterAsked words (Page setup)
  gives_by setup gives =
      subst (λ (ks : Kinds). AsksFilter ks (matches_of filter_command words) (Page setup)) (sym no_fault) (subst (λ (r : List Row). GivesSetup r setup) rows_are gives)

  asks_none : (ask : FilterAsk) → ((setup : Setup) → GivesSetup rows setup → ⊥) → AsksFilter [] (matches_of filter_command words) ask → ⊥
  asks_none Help none asks = asks
  asks_none (Page setup) none asks = none setup (subst (λ (r : List Row). GivesSetup r setup) (sym rows_are) asks)

  pub gives_none : ((setup : Setup) → GivesSetup rows setup → ⊥) → (ask : FilterAsk) → IsFilterAsked words ask → ⊥
  gives_none none ask asks = asks_none ask none (subst (λ (ks : Kinds). AsksFilter ks (matches_of filter_command words) ask) no_fault asks)

abbrev is_memory : ErrorKind → Bool
is_memory kind.OutOfMemory = true
is_memory _ = false

-- `clap` finds an error
module _ (a : App) (words : List (List ℕ)) (k : ErrorKind) (e : a ≡ filter_command)
    (has : is_simple_and_free a ≡ true → (k ≡ kind.OutOfMemory) ⊎ IsAmong k (fault_of a words)) where
  one_fault : k ≢ kind.OutOfMemory → fault_of filter_command words ≡ k ∷ []
  one_fault memory = go (has (ap is_simple_and_free e ∙ free_command))
    where
      go : (k ≡ kind.OutOfMemory) ⊎ IsAmong k (fault_of a words) → fault_of filter_command words ≡ k ∷ []
      go (inl m) = absurd (memory m)
      go (inr among) = among_few k (fault_of filter_command words) (subst (λ (x : App). IsAmong k (fault_of x words)) e among) (few_in_words words)

  pub helps_by : k ≡ kind.DisplayHelp → IsFilterAsked words Help
  helps_by is =
      subst (λ (ks : Kinds). AsksFilter ks (matches_of filter_command words) Help) (sym (one_fault (λ m. true≢false (sym (ap is_memory m) ∙ ap is_memory is)))) (is, refl)

  pub refuses_by : k ≢ kind.DisplayHelp → k ≢ kind.OutOfMemory → (ask : FilterAsk) → IsFilterAsked words ask → ⊥
  refuses_by other memory ask asks =
      other (subst (λ (ks : Kinds). AsksFilter ks (matches_of filter_command words) ask) (one_fault memory) asks).0

-- a page can be filtered with a setup that is asked for
can_by : (kinds : Kinds) (rows : List Row) (setup : Setup) → AsksFilter kinds rows (Page setup) → CanFilter setup
can_by [] rows setup gives = record { most_radius = gives.most_radius; some_times = gives.some_times; most_times = gives.most_times; most_level = gives.most_level }
can_by (fault ∷ kinds) rows setup (help, is) = absurd (let never : Page setup ≡ Help = is in cc)

pub asked_can : (words : List (List ℕ)) (setup : Setup) → IsFilterAsked words (Page setup) → CanFilter setup
asked_can words setup asks = can_by (fault_of filter_command words) (matches_of filter_command words) setup asks

-- At most one thing is asked for.

one_setup : (rows : List Row) (s t : Setup) → GivesSetup rows s → GivesSetup rows t → s ≡ t
one_setup rows s t a b =
    let radius : s.radius ≡ t.radius = sym a.radius.value ∙ b.radius.value in
    let times : s.times ≡ t.times = sym a.times.value ∙ b.times.value in
    let level : s.level ≡ t.level = one_micro _ s.level t.level a.level b.level in
    λ i. record { radius = radius i; times = times i; level = level i }

one_by : (kinds : Kinds) (rows : List Row) (one other : FilterAsk) → AsksFilter kinds rows one → AsksFilter kinds rows other → one ≡ other
one_by [] rows Help other a b = absurd a
one_by [] rows one Help a b = absurd b
one_by [] rows (Page s) (Page t) a b = ap (λ (x : Setup). Page x) (one_setup rows s t a b)
one_by (fault ∷ kinds) rows one other a b = a.1 ∙ sym b.1

pub one_filter_ask : (words : List (List ℕ)) (one other : FilterAsk) → IsFilterAsked words one → IsFilterAsked words other → one ≡ other
one_filter_ask words one other a b = one_by (fault_of filter_command words) (matches_of filter_command words) one other a b
