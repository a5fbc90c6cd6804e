-- The search for the pixel where the next path starts.
use Rattle.std.specs.Prelude.{◌≡◌, ℕ, ◌<◌, ◌≤◌, false, Option, MatchOption}
use Rattle.bit_image.specs.Image.{Image, IsWhite}
use Rattle.bit_image.specs.FirstBlack.{IsFirstBlack}

-- on a page of this width the rows above pixel (x, y) are white, and so is its own row up to it
pub record IsWhiteThrough (b : Image) (width x y : ℕ) : Type 0 where
  pub above : (u v : ℕ) → u < width → y < v → b u v ≡ false
  pub left : (u : ℕ) → u ≤ x → b u y ≡ false

-- the first black pixel, or none where all is white
abbrev pub IsStart : Image → Option (ℕ × ℕ) → Type 0
IsStart b start = MatchOption start (IsWhite b) (λ place. IsFirstBlack b place.0 place.1)
