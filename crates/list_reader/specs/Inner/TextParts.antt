-- Parts of a text, one after another.
use Rattle.std.specs.Prelude.{◌≡◌, ℕ, ◌<◌, ◌≤◌, List, ◌++◌, length}

-- the bytes begin with the text of this value
pub record IsPart {A : Type 0} (text : A → List ℕ) (IsIn : A → Type 0) (bytes : List ℕ) (x : A) (rest : List ℕ) : Type 0 where
  pub is : bytes ≡ text x ++ rest
  pub inside : IsIn x

-- a part that starts at index `at` ends at index `end`, after `at` and within the text
abbrev pub EndsBehind : ℕ → List ℕ → ℕ → Type 0
EndsBehind at text end = (at < end) × (end ≤ length text)
