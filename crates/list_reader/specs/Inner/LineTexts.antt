-- Lines: the texts of values, and a line feed.
use Rattle.std.specs.Prelude.{◌≡◌, ℕ, ◌≤◌, List, ◌∷◌, ◌++◌, All, flat_map, length}
use Rattle.list_reader.specs.Inner.Numerals.{EndsDigits}

-- the text of each value begins with a space, and no other value has the same text
pub record AreEntries (A : Type 0) (text : A → List ℕ) (IsIn : A → Type 0) : Type 0 where
  pub spaced : (x : A) → (rest : List ℕ) × (text x ≡ 32 ∷ rest)
  pub one : (x y : A) (r s : List ℕ) → IsIn x → IsIn y → EndsDigits r → EndsDigits s → text x ++ r ≡ text y ++ s → (x ≡ y) × (r ≡ s)

-- the bytes begin with the texts of the values and a line feed
pub record IsEntryLine (A : Type 0) (text : A → List ℕ) (IsIn : A → Type 0) (bytes : List ℕ) (xs : List A) (rest : List ℕ) : Type 0 where
  pub is : bytes ≡ flat_map text xs ++ 10 ∷ rest
  pub all : All IsIn xs

-- the bytes begin with the texts of one or more values and a line feed
pub record IsSomeLine (A : Type 0) (text : A → List ℕ) (IsIn : A → Type 0) (bytes : List ℕ) (xs : List A) (rest : List ℕ) : Type 0 where
  pub line : IsEntryLine A text IsIn bytes xs rest
  pub some : 1 ≤ length xs
