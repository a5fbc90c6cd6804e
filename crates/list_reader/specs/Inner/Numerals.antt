-- Decimal numbers at the beginning of a text.
use Rattle.std.specs.Prelude.{◌≡◌, ℕ, ◌<◌, ◌≤◌, ◌^◌, List, ◌++◌, decimal, length, slice_index}
use Rattle.pt_base.specs.Whole.{IsDigit, value_after}
use Rattle.list_reader.specs.declared.number.TheConstants.{MOST_DIGITS}

-- the bytes don't begin with a digit
abbrev pub EndsDigits : List ℕ → Type 0
EndsDigits bytes = ¬ IsDigit (slice_index bytes 0)

-- the bytes begin with a number of at most `most`, and no digit follows it
pub record IsNumeral (most : ℕ) (bytes : List ℕ) (n : ℕ) (rest : List ℕ) : Type 0 where
  pub text : bytes ≡ decimal n ++ rest
  pub few : n ≤ most
  pub ends : EndsDigits rest

-- there is at least one digit, there are at most `MOST_DIGITS`, and none is a needless zero
abbrev pub IsPlain : List ℕ → Type 0
IsPlain digits = (0 < length digits) × (length digits ≤ MOST_DIGITS) × (slice_index digits 0 ≡ 48 → length digits ≡ 1)

-- the digits from index `at` on end at index `end`, at which there is no digit
pub record IsDigitsEnd (text : List ℕ) (at end : ℕ) : Type 0 where
  pub onwards : at ≤ end
  pub within : end ≤ length text
  pub digits : (k : ℕ) → at ≤ k → k < end → IsDigit (slice_index text k)
  pub stops : ¬ IsDigit (slice_index text end)

-- some digits have this value, and if it is below 2^64 they are its decimal text
pub record IsPlainValue (digits : List ℕ) (n : ℕ) : Type 0 where
  pub some : 0 < length digits
  pub value : n ≡ value_after 0 digits
  pub plain : n < 2 ^ 64 → decimal n ≡ digits
