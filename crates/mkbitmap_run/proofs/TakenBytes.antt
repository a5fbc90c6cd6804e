-- What follows for standard input from the bytes that were read of it.
use Rattle.std.proofs.Common.{◌≡◌, ℕ, Bool, true, List, [], ◌++◌, length, take, drop, refl, ap, sym, ◌∙◌, subst, Option, None, Some, append_assoc}
use Rattle.std.proofs.lemmas.List.{take-append-drop}
use Rattle.pt_core.specs.Files.{Files, with_read}
use Rattle.bitmap_input.specs.Reading.{AtEnd, Moves}
use Rattle.small_program.specs.Input.{HasInput, HasTaken}

-- further bytes were read
pub taken_on : (start before now : Option Files) (taken more : List ℕ) (ended ended_now : Bool) → HasTaken start before taken → Moves ended before ended_now now more
    → HasTaken start now (taken ++ more)
taken_on None before now taken more ended ended_now has moves = moves.files ∙ ap (λ (f : Option Files). with_read f (length more)) has
taken_on (Some files) before now taken more ended ended_now (rest, is, same) moves =
    let front : more ≡ take (length more) rest = (subst (λ (f : Option Files). Moves ended f ended_now now more) same moves).told in (
      drop (length more) rest,
      is ∙ ap (λ (l : List ℕ). Some (taken ++ l)) (sym (take-append-drop (length more) rest) ∙ ap (λ (l : List ℕ). l ++ drop (length more) rest) (sym front))
          ∙ ap (λ (l : List ℕ). Some l) (sym (append_assoc taken more (drop (length more) rest))),
      moves.files ∙ ap (λ (f : Option Files). with_read f (length more)) same,
    )

-- standard input is the bytes that were read and the unread ones; there are no unread ones at the end
pub all_of_taken : (start now : Option Files) (taken : List ℕ) (ended : Bool) → HasTaken start now taken → (ended ≡ true → AtEnd now)
    → (more : List ℕ) × HasInput start (taken ++ more) × (ended ≡ true → more ≡ [])
all_of_taken None now taken ended has at_end = ([], tt, λ _. refl)
all_of_taken (Some files) now taken ended (rest, is, same) at_end = (rest, is, λ e. subst AtEnd same (at_end e))
