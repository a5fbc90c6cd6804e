-- What follows for standard input from the bytes that were read of it.
use Rattle.std.proofs.Common.{◌≡◌, ℕ, ◌≤◌, List, [], ◌++◌, length, Option, None, Some, refl, sym, ◌∙◌, ap, option_map, arith, length-append}
use Rattle.std.specs.FinMap.{get}
use Rattle.pt_core.specs.Files.{Files, Lacks, with_file}
use Rattle.run_output.specs.Names.{dash}
use Rattle.small_program.specs.Input.{HasInput, HasTaken, TellsInput}

-- standard input has the bytes that were read, and perhaps more
pub input_of_taken : (start now : Option Files) (taken : List ℕ) → HasTaken start now taken → (bytes : List ℕ) × HasInput start bytes × (length taken ≤ length bytes)
input_of_taken None now taken has = (taken, tt, omega arith)
input_of_taken (Some files) now taken (rest, is, same) = (taken ++ rest, is, omega (arith, length-append taken rest))

-- nothing was read of standard input just after it was opened
pub nothing_taken : (files now : Option Files) → now ≡ with_file files dash → (Lacks files dash → ⊥) → HasTaken files now []
nothing_taken None now opened there = opened
nothing_taken (Some files) now opened there = held (get files.contents dash) refl
  where
    held : (b : Option (List ℕ)) → get files.contents dash ≡ b → HasTaken (Some files) now []
    held None is = absurd (there is)
    held (Some bytes) is =
        (bytes, is, opened ∙ ap (λ o. Some (record { contents = files.contents; opened = option_map (λ (b : List ℕ). record { name = dash; rest = b }) o })) is)

-- if contracts know standard input, it has only one content
pub one_input : (files : Option Files) (a b : List ℕ) → HasInput files a → TellsInput files b → b ≡ a
one_input None a b has tells = absurd tells
one_input (Some files) a b has tells = let same : Some b ≡ Some a = sym tells ∙ has in cc

-- standard input isn't missing if it has bytes
pub is_there : (files : Option Files) (bytes : List ℕ) → TellsInput files bytes → Lacks files dash → ⊥
is_there None bytes tells lacks = tells
is_there (Some files) bytes tells lacks = absurd (let never : Some bytes ≡ None = sym tells ∙ lacks in cc)

pub is_not_missing : (files : Option Files) (bytes : List ℕ) → HasInput files bytes → Lacks files dash → ⊥
is_not_missing None bytes has lacks = lacks
is_not_missing (Some files) bytes has lacks = absurd (let never : Some bytes ≡ None = sym has ∙ lacks in cc)
