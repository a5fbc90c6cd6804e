-- The character of a plain pixel decides the pixel.
use Rattle.std.proofs.Common.{◌≡◌, refl, ℕ, true, false, List, ◌∷◌}
use Rattle.std.specs.Prelude.{nat_eq}
use Rattle.bitmap_input.specs.Cut.Kind.{BadRaster}
use Rattle.bitmap_input.specs.Cut.FileEnd.{Refused}
use Rattle.bitmap_input.specs.Cut.Cut.{Takes, Stops}
use Rattle.bitmap_input.specs.PageParts.{pixel}
use Rattle.bitmap_input.specs.Front.{plain_pixel}

pub white_at : (b : ℕ) (xs : List ℕ) → b ≡ 48 → pixel (b ∷ xs) ≡ Takes false false xs
white_at b xs is = rw is refl

pub black_at : (b : ℕ) (xs : List ℕ) → b ≡ 49 → pixel (b ∷ xs) ≡ Takes false true xs
black_at b xs is = rw is refl

-- a character other than `0` and `1` isn't a pixel
pub no_pixel_at : (b : ℕ) (xs : List ℕ) → nat_eq b 48 ≡ false → nat_eq b 49 ≡ false → pixel (b ∷ xs) ≡ Stops false (Refused BadRaster)
no_pixel_at b xs white black = rw (white, black) refl

-- a pixel without whitespace and comments before it
pub plain_white_at : (b : ℕ) (xs : List ℕ) → b ≡ 48 → plain_pixel (b ∷ xs) ≡ Takes false false xs
plain_white_at b xs is = rw is refl

pub plain_black_at : (b : ℕ) (xs : List ℕ) → b ≡ 49 → plain_pixel (b ∷ xs) ≡ Takes false true xs
plain_black_at b xs is = rw is refl
