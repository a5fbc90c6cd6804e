-- The entries of a line: two numbers, or one, after a space.
use Rattle.std.specs.Prelude.{◌≡◌, ℕ, ◌≤◌, List, ◌∷◌, ◌++◌, decimal}
use Rattle.list_reader.specs.Inner.Numerals.{EndsDigits}

-- the bytes begin with a space, a number, the separator and another number, and no digit follows them
pub record IsPair (separator most_first most_second : ℕ) (bytes : List ℕ) (first second : ℕ) (rest : List ℕ) : Type 0 where
  pub is : bytes ≡ 32 ∷ (decimal first ++ separator ∷ (decimal second ++ rest))
  pub first_few : first ≤ most_first
  pub second_few : second ≤ most_second
  pub ends : EndsDigits rest

-- the bytes begin with the text of this value, and no digit follows it
pub record IsEntry {A : Type 0} (text : A → List ℕ) (IsIn : A → Type 0) (bytes : List ℕ) (x : A) (rest : List ℕ) : Type 0 where
  pub is : bytes ≡ text x ++ rest
  pub inside : IsIn x
  pub ends : EndsDigits rest
