-- The answers of `clap` are the ones that the definitions give.
use Rattle.std.proofs.Common.{◌≡◌, ◌≢◌, ◌∙◌, ◌⊎◌, ℕ, Bool, true, false, List, [], refl, sym, ap, subst, inl, inr, true≢false}
use Rattle.clap.specs.Walk.{Row}
use Rattle.clap.specs.Simple.{App, is_simple, matches_of}
use Rattle.clap.specs.Kinds.{Kinds, IsAmong}
use Rattle.clap.specs.Faults.{fault_of, is_simple_and_free}
use Rattle.clap.specs.declared.error.kind.ErrorKind.{ErrorKind}
use Rattle.clap.specs.declared.error.kind.ErrorKind.TheVariants as kind
use Rattle.potrace_options.specs.Command.{command, faults_of_words, rows_of_words}
use Rattle.potrace_options.specs.Given.{Given, given_of}
use Rattle.potrace_options.specs.Parsed.{parsed, parsed_by, parsed_by_fault}
use Rattle.potrace_options.specs.declared.parsed.Parsed.TheVariants.{Help, Refused, Gives}
use Rattle.potrace_options.proofs.OneFault.{IsFew, among_few, few_faults}

-- `clap`'s contract says which errors it finds for this command
pub is_simple_command : is_simple_and_free command ≡ true
is_simple_command = refl

-- `clap`'s contract says which values it finds for this command
pub is_simple_one : is_simple command ≡ true
is_simple_one = refl

few_in_words : (words : List (List ℕ)) → IsFew (faults_of_words words)
few_in_words words = few_faults command words refl refl

pub gives : (words : List (List ℕ)) (rows : List Row) (g : Given) → faults_of_words words ≡ [] → rows ≡ rows_of_words words → g ≡ given_of rows → Gives g ≡ parsed words
gives words rows g free found is_given =
    ap (λ (x : Given). Gives x) (is_given ∙ ap given_of found) ∙ ap (λ (ks : Kinds). parsed_by ks (given_of (rows_of_words words))) (sym free)

pub helps : (words : List (List ℕ)) → IsAmong kind.DisplayHelp (faults_of_words words) → Help ≡ parsed words
helps words among = ap (λ (ks : Kinds). parsed_by ks (given_of (rows_of_words words))) (sym (among_few kind.DisplayHelp (faults_of_words words) among (few_in_words words)))

refusal : (k : ErrorKind) → k ≢ kind.DisplayHelp → Refused ≡ parsed_by_fault k
refusal kind.InvalidValue other = refl
refusal kind.UnknownArgument other = refl
refusal kind.InvalidSubcommand other = refl
refusal kind.NoEquals other = refl
refusal kind.ValueValidation other = refl
refusal kind.TooManyValues other = refl
refusal kind.TooFewValues other = refl
refusal kind.WrongNumberOfValues other = refl
refusal kind.ArgumentConflict other = refl
refusal kind.MissingRequiredArgument other = refl
refusal kind.MissingSubcommand other = refl
refusal kind.DisplayHelp other = absurd (other refl)
refusal kind.DisplayHelpOnMissingArgumentOrSubcommand other = refl
refusal kind.DisplayVersion other = refl
refusal kind.Io other = refl
refusal kind.Format other = refl
refusal kind.OutOfMemory other = refl

pub refuses : (words : List (List ℕ)) (k : ErrorKind) → IsAmong k (faults_of_words words) → k ≢ kind.DisplayHelp → Refused ≡ parsed words
refuses words k among other =
    refusal k other ∙ ap (λ (ks : Kinds). parsed_by ks (given_of (rows_of_words words))) (sym (among_few k (faults_of_words words) among (few_in_words words)))

-- These facts for a command that is known to be the program's.

pub gives_by : (a : App) (words : List (List ℕ)) (rows : List Row) (g : Given) → a ≡ command → (is_simple_and_free a ≡ true → fault_of a words ≡ [])
    → (is_simple a ≡ true → rows ≡ matches_of a words) → g ≡ given_of rows → Gives g ≡ parsed words
gives_by a words rows g e free found is_given =
    gives words rows g (ap (λ (x : App). fault_of x words) (sym e) ∙ free (ap is_simple_and_free e ∙ is_simple_command))
    (found (ap is_simple e ∙ is_simple_one) ∙ ap (λ (x : App). matches_of x words) e) is_given

abbrev is_memory : ErrorKind → Bool
is_memory kind.OutOfMemory = true
is_memory _ = false

pub helps_by : (a : App) (words : List (List ℕ)) (k : ErrorKind) → a ≡ command
    → (is_simple_and_free a ≡ true → (k ≡ kind.OutOfMemory) ⊎ IsAmong k (fault_of a words)) → k ≡ kind.DisplayHelp → Help ≡ parsed words
helps_by a words k e has is = go (has (ap is_simple_and_free e ∙ is_simple_command))
  where
    go : (k ≡ kind.OutOfMemory) ⊎ IsAmong k (fault_of a words) → Help ≡ parsed words
    go (inl m) = absurd (true≢false (sym (ap is_memory m) ∙ ap is_memory is))
    go (inr among) = helps words (subst (λ (x : App). IsAmong kind.DisplayHelp (fault_of x words)) e (subst (λ (x : ErrorKind). IsAmong x (fault_of a words)) is among))

pub refuses_by : (a : App) (words : List (List ℕ)) (k : ErrorKind) → a ≡ command
    → (is_simple_and_free a ≡ true → (k ≡ kind.OutOfMemory) ⊎ IsAmong k (fault_of a words)) → k ≢ kind.DisplayHelp → k ≢ kind.OutOfMemory → Refused ≡ parsed words
refuses_by a words k e has other memory = go (has (ap is_simple_and_free e ∙ is_simple_command))
  where
    go : (k ≡ kind.OutOfMemory) ⊎ IsAmong k (fault_of a words) → Refused ≡ parsed words
    go (inl m) = absurd (memory m)
    go (inr among) = refuses words k (subst (λ (x : App). IsAmong k (fault_of x words)) e among) other
