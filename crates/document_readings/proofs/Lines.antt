-- Texts in which no line ends.
use Rattle.std.proofs.Common.{◌≡◌, ℕ, ◌^◌, ◌<◌, Bool, true, false, not, List, arith}
use Rattle.std.proofs.lemmas.Bool.Decides.{nat_tests}
use Rattle.std.proofs.lemmas.List.Elements.{All-weaker}
use Rattle.std.specs.Prelude.{decimal, All, ◌==◌}
use Rattle.pt_base.specs.Whole.{IsDigit}
use Rattle.list_reader.proofs.Runs.{digits_of_decimal}
use Rattle.document_readings.proofs.BytesPass.{all_pass, each_passes}

abbrev pub IsNoLineFeed : ℕ → Type 0
IsNoLineFeed b = (b == 10) ≡ false

pub digit_in_line : (b : ℕ) → IsDigit b → IsNoLineFeed b
digit_in_line b d = grind (arith, nat_tests)

pub number_in_line : (n : ℕ) → n < 2 ^ 64 → All IsNoLineFeed (decimal n)
number_in_line n small = All-weaker IsDigit IsNoLineFeed digit_in_line (decimal n) (digits_of_decimal n small)

-- the test of it, which literal texts pass
abbrev pub is_within : ℕ → Bool
is_within b = not (b == 10)

pub within_line : (text : List ℕ) → all_pass is_within text ≡ true → All IsNoLineFeed text
within_line text h = All-weaker (λ b. is_within b ≡ true) IsNoLineFeed (λ b k. grind (arith, nat_tests)) text (each_passes is_within text h)
