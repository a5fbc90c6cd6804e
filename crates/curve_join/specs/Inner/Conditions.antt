-- Optional answers that are there exactly if a condition holds.
use Rattle.std.specs.Prelude.{◌≡◌, Option, None, Some}

-- the condition holds, and the answer is this value
pub record IsGiven {A : Type 0} (P : Type 0) (value answer : A) : Type 0 where
  pub holds : P
  pub is : answer ≡ value

-- the answer is this value if the condition holds, and else there is none
abbrev pub IsGivenIf : {A : Type 0} → Type 0 → A → Option A → Type 0
IsGivenIf P value (Some answer) = IsGiven P value answer
IsGivenIf P value None = ¬ P
