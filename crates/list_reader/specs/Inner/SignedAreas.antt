-- The sign and the area of a path.
use Rattle.std.specs.Prelude.{◌≡◌, ℕ, ◌<◌, ◌^◌, List, ◌∷◌, ◌++◌, decimal}
use Rattle.pt_base.specs.PointsText.{sign_text}
use Rattle.pt_core.specs.declared.path.Sign.{Sign}
use Rattle.list_reader.specs.Inner.Numerals.{EndsDigits}

-- the bytes begin with the sign, a space and the area, and no digit follows them
pub record IsSignedArea (bytes : List ℕ) (sign : Sign) (area : ℕ) (rest : List ℕ) : Type 0 where
  pub is : bytes ≡ sign_text sign ++ 32 ∷ (decimal area ++ rest)
  pub few : area < 2 ^ 64
  pub ends : EndsDigits rest
