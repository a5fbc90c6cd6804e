-- The first bad path of some, if there is one.
use Rattle.std.specs.Prelude.{ℕ, List, All, Option, Some, None}
use Rattle.outline_check.specs.ProofsText.{Certified}
use Rattle.outline_check.specs.Verdicts.{IsGood, IsFirstBad}

-- of some paths none is bad, or this is the place of the first that is
abbrev pub IsJudged : List Certified → Option ℕ → Type 0
IsJudged paths None = All IsGood paths
IsJudged paths (Some k) = IsFirstBad paths k
