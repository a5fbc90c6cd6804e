-- Values written to a row as pixels.
use Rattle.std.proofs.Common.{◌≡◌, refl, ℕ, ◌+◌, Bool, false, true, not, List, ◌∷◌, map, ap, sym, ◌∙◌}
use Rattle.std.proofs.Common.{add-one}
use Rattle.std.proofs.Math.Path.{fun_ext}
use Rattle.std.proofs.Math.Bool.{beq}
use Rattle.bit_image.specs.Image.{Image, with_pixel, differ}
use Rattle.bitmap_input.specs.Inner.Raster.{with_pixels}

-- one more value, written as its pixel
pub pixel_painted : {A : Type 0} (f : A → Bool) (c c2 : Image) (x y : ℕ) (v : Bool) (a : A) →
    ((u w : ℕ) → c2 u w ≡ with_pixel c x y v u w) → f a ≡ v → (values : List A) →
    with_pixels c2 y (x + 1) (map f values) ≡ with_pixels c y x (map f (a ∷ values))
pixel_painted f c c2 x y v a set same values =
    let e : c2 ≡ with_pixel c x y (f a) = fun_ext (λ u. fun_ext (λ w. set u w ∙ ap (λ p. with_pixel c x y p u w) (sym same))) in
    rw (e, add-one) refl

-- a pixel that is inverted or not
pub turned : (invert black : Bool) → not (beq black invert) ≡ differ invert black
turned true true = refl
turned true false = refl
turned false true = refl
turned false false = refl
