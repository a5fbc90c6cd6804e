-- Natural numbers as words.
use Rattle.std.proofs.Common.{◌≡◌, ℕ, ◌+◌, ◌-◌, ◌*◌, ◌^◌, ◌<◌, false, List, [], ◌∷◌, ◌++◌, refl, Some, arith}
use Rattle.std.proofs.lemmas.Bool.Decides.{nat_tests}
use Rattle.std.proofs.lemmas.List.Elements.{All-head, All-tail, All-weaker}
use Rattle.std.proofs.lemmas.List.Splits.{slice_split_at, slice_split_none}
use Rattle.std.specs.Prelude.{decimal, All, ◌==◌}
use Rattle.pt_base.specs.Whole.{IsDigit, value_after}
use Rattle.list_reader.proofs.Runs.{digits_of_decimal}
use Rattle.document_readings.specs.WholeNumbers.{natural_from, natural_of}
use Rattle.document_readings.specs.TextLines.{spaced_words}
use Rattle.document_readings.proofs.Digits.{by_first_digit, is_digit_true}

-- a number that is digits alone
digits_alone : (ds : List ℕ) (value : ℕ) → All IsDigit ds → natural_from (Some value) ds ≡ Some (value_after value ds)
digits_alone [] value all = refl
digits_alone (b ∷ ds) value all = rw (is_digit_true b (All-head IsDigit b ds all)) (digits_alone ds (10 * value + (b - 48)) (All-tail IsDigit b ds all))

pub natural_read : (n : ℕ) → n < 2 ^ 64 → natural_of (decimal n) ≡ Some n
natural_read n small =
    by_first_digit (λ ds m. natural_of ds ≡ Some m) (λ b ds first others. rw (is_digit_true b first) (digits_alone ds (0 + (b - 48)) others)) n small

-- a number has no space in it
digit_is_no_space : (b : ℕ) → IsDigit b → (b == 32) ≡ false
digit_is_no_space b d = grind (arith, nat_tests)

no_space : (n : ℕ) → n < 2 ^ 64 → All (λ b. (b == 32) ≡ false) (decimal n)
no_space n small = All-weaker IsDigit (λ b. (b == 32) ≡ false) digit_is_no_space (decimal n) (digits_of_decimal n small)

pub word_before_space : (n : ℕ) (rest : List ℕ) → n < 2 ^ 64 → spaced_words (decimal n ++ 32 ∷ rest) ≡ decimal n ∷ spaced_words rest
word_before_space n rest small = slice_split_at (λ b. b == 32) (decimal n) 32 rest (no_space n small) refl

pub last_word : (n : ℕ) → n < 2 ^ 64 → spaced_words (decimal n) ≡ decimal n ∷ []
last_word n small = slice_split_none (λ b. b == 32) (decimal n) (no_space n small)
