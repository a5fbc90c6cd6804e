-- Texts all of whose bytes pass a test, as the texts of numbers do that digits and a minus sign pass.
use Rattle.std.proofs.Common.{◌≡◌, ℕ, suc, ◌^◌, ◌<◌, ℤ, pos, negsuc, unsigned_abs, Bool, true, false, List, [], ◌∷◌, ◌++◌, refl, ap, sym, ◌∙◌, arith}
use Rattle.std.proofs.lemmas.Bool.{true≢false}
use Rattle.std.proofs.lemmas.List.Elements.{All-head, All-tail, All-nil, All-cons}
use Rattle.std.specs.Prelude.{decimal, All, ◌&&◌}
use Rattle.std.specs.Fmt.{signed_decimal}
use Rattle.pt_base.specs.Whole.{IsDigit}
use Rattle.list_reader.proofs.Runs.{digits_of_decimal}

-- each byte passes
abbrev pub all_pass : (ℕ → Bool) → List ℕ → Bool
all_pass test [] = true
all_pass test (b ∷ bs) = test b && all_pass test bs

pub both_true : (a b : Bool) → (a && b) ≡ true → (a ≡ true) × (b ≡ true)
both_true true b h = (refl, h)
both_true false b h = absurd (true≢false (sym h))

module _ (test : ℕ → Bool) where
  pub passes_append : (xs ys : List ℕ) → all_pass test xs ≡ true → all_pass test ys ≡ true → all_pass test (xs ++ ys) ≡ true
  passes_append [] ys h k = k
  passes_append (x ∷ xs) ys h k =
      let both = both_true (test x) (all_pass test xs) h in
      ap (λ t. t && all_pass test (xs ++ ys)) both.0 ∙ passes_append xs ys both.1 k

  pub each_passes : (xs : List ℕ) → all_pass test xs ≡ true → All (λ b. test b ≡ true) xs
  each_passes [] h = All-nil (λ b. test b ≡ true)
  each_passes (x ∷ xs) h =
      let both = both_true (test x) (all_pass test xs) h in
      All-cons (λ b. test b ≡ true) x xs both.0 (each_passes xs both.1)

  module _ (of_digit : (b : ℕ) → IsDigit b → test b ≡ true) where
    digits_pass : (ds : List ℕ) → All IsDigit ds → all_pass test ds ≡ true
    digits_pass [] all = refl
    digits_pass (d ∷ ds) all =
        ap (λ t. t && all_pass test ds) (of_digit d (All-head IsDigit d ds all)) ∙ digits_pass ds (All-tail IsDigit d ds all)

    pub decimal_passes : (n : ℕ) → n < 2 ^ 64 → all_pass test (decimal n) ≡ true
    decimal_passes n small = digits_pass (decimal n) (digits_of_decimal n small)

    pub signed_passes : test 45 ≡ true → (z : ℤ) → unsigned_abs z < 2 ^ 62 → all_pass test (signed_decimal z) ≡ true
    signed_passes of_minus (pos n) small = decimal_passes n (omega arith)
    signed_passes of_minus (negsuc n) small = ap (λ t. t && all_pass test (decimal (suc n))) of_minus ∙ decimal_passes (suc n) (omega arith)
